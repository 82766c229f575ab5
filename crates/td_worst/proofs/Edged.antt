-- Answers within the bound by edges.
use Rattle.std.proofs.Common.{◌≡◌, ℕ, ◌≤◌, true, Option, Some, None, ap, arith}
use Rattle.td_certificate.specs.declared.tree.BoundedBy.TheVariants.{Edges}
use Rattle.td_certificate.specs.Accepts.{IsBoundBy}
use Rattle.td_search.specs.declared.answers.Answer.{Answer}
use Rattle.td_search.specs.declared.answers.Answer.TheVariants as answer
use Rattle.td_search.specs.declared.answers.Cause.TheVariants as cause
use Rattle.td_search.specs.Problems.{Problem}
use Rattle.td_worst.specs.Methods.{high_of, is_open, IsWithinEdges}

-- a later answer is within it where an earlier one, which is open, is
pub stays_within : (asked : Problem) (earlier later : Answer) → IsWithinEdges asked earlier → is_open earlier ≡ true → high_of later ≤ high_of earlier
    → IsWithinEdges asked later
stays_within asked (answer.Exact time pair tree) later is still le = absurd cc
stays_within asked (answer.Between low high pair nodes cause.Memory) later is still le = absurd cc
stays_within asked (answer.Between low high pair nodes cause.Time) later is still le = absurd cc
stays_within asked (answer.Between low high pair nodes cause.Budget) (answer.Exact time other tree) is still le = tt
stays_within asked (answer.Between low high pair nodes cause.Budget) (answer.Between low' high' other nodes' why) is still le =
    λ bound has other_cause. omega (arith, is bound has (λ h. cc), le)

abbrev pub or_zero : Option ℕ → ℕ
or_zero None = 0
or_zero (Some n) = n

-- an answer whose upper figure is at most the one bound is within it
pub within_bound : (asked : Problem) (found : Answer) (bound : ℕ)
    → ((other : Option ℕ) → IsBoundBy Edges asked.setting asked.admit.pins other → other ≡ Some bound) → high_of found ≤ bound → IsWithinEdges asked found
within_bound asked (answer.Exact time pair tree) bound only le = tt
within_bound asked (answer.Between low high pair nodes why) bound only le =
    λ other has other_cause. (let same : other ≡ bound = ap or_zero (only (Some other) has) in omega (arith, same, le))

-- where edges give no bound, any answer is within it
pub within_none : (asked : Problem) (found : Answer) → ((other : Option ℕ) → IsBoundBy Edges asked.setting asked.admit.pins other → other ≡ None)
    → IsWithinEdges asked found
within_none asked (answer.Exact time pair tree) only = tt
within_none asked (answer.Between low high pair nodes why) only = λ other has other_cause. absurd (let e : Some other ≡ None = only (Some other) has in cc)
