-- By which means the worst delay is searched for, and what its answer says.
use Rattle.std.specs.Prelude.{◌≢◌, ℕ, ◌/◌, ◌<◌, ◌≤◌, ◌^◌, ◌||◌, min, max, nat_lt, nat_le, Bool, true, false, Option, Some, None}
use Rattle.td_domain.specs.Pairs.{Pair}
use Rattle.td_domain.specs.Worst.{IsUpperBound, IsWorst}
use Rattle.td_certificate.specs.declared.tree.BoundedBy.TheVariants.{Edges}
use Rattle.td_certificate.specs.Accepts.{IsBoundBy}
use Rattle.td_search.specs.declared.answers.Cause.TheVariants as cause
use Rattle.td_search.specs.declared.strategy.Strategy.{Strategy}
use Rattle.td_search.specs.declared.strategy.Strategy.TheVariants as strategy
use Rattle.td_search.specs.declared.answers.Answer.{Answer}
use Rattle.td_search.specs.declared.answers.Answer.TheVariants as answer
use Rattle.td_search.specs.Problems.{Problem, has_delay, problem_by}
use Rattle.td_search.specs.Answers.{IsAnswer, IsExact, low_of}
use Rattle.td_search.specs.Opened as opened
use Rattle.td_worst.specs.declared.method.Method.{Method}
use Rattle.td_worst.specs.declared.method.Method.TheVariants as method
use Rattle.td_worst.specs.declared.question.Question.{Question}

-- the strategy of the first tree that a method searches, and of parts of a question
abbrev pub tree_of : Method → Strategy
tree_of method.Least = strategy.Least
tree_of method.Auto = strategy.Least
tree_of method.Lead = strategy.Lead
tree_of method.Refute = strategy.Lead

-- The pair is admitted and has the lower figure, and no admitted pair has a delay above the upper
-- one, so the worst delay lies between the two. The trees that were searched had at most as many
-- nodes as the budget says.
pub record IsBoundedAnswer (asked : Problem) (budget low high : ℕ) (pair : Pair) (nodes : ℕ) : Type 0 where
  pub reached : has_delay asked pair low
  pub greatest : IsUpperBound asked.setting asked.admit high
  pub ordered : low ≤ high
  pub worst : (worst : ℕ) → IsWorst asked.setting asked.admit worst → (low ≤ worst) × (worst ≤ high)
  pub within : nodes ≤ budget
  pub small : high < 10 ^ 15

-- an answer that says nothing of a tree that was cut short
abbrev pub IsSoundAnswer : Problem → ℕ → Answer → Type 0
IsSoundAnswer asked budget (answer.Exact time pair tree) = IsExact asked budget time pair tree
IsSoundAnswer asked budget (answer.Between low high pair nodes why) = IsBoundedAnswer asked budget low high pair nodes

-- an answer of a method
abbrev pub IsAnswerBy : Method → Problem → ℕ → Answer → Type 0
IsAnswerBy method.Least asked budget found = IsAnswer asked budget found
IsAnswerBy method.Lead asked budget found = IsAnswer asked budget found
IsAnswerBy method.Refute asked budget found = IsSoundAnswer asked budget found
IsAnswerBy method.Auto asked budget found = IsSoundAnswer asked budget found

-- how many nodes `auto` gives its first tree, where a circuit has as many gates
abbrev pub first_nodes : ℕ → ℕ
first_nodes gates = max (min 10000 (60000 / max gates 1)) 1

-- whether a method goes on after a first tree, or begins without one
abbrev pub goes_further : Method → ℕ → ℕ → Bool
goes_further method.Least gates budget = false
goes_further method.Lead gates budget = false
goes_further method.Refute gates budget = nat_lt 0 budget
goes_further method.Auto gates budget = nat_lt (first_nodes gates) budget

-- what is asked
abbrev pub problem_in : Question → Problem
problem_in question = problem_by (tree_of question.method) question.circuit.now question.admit.now

-- whether an answer isn't exact for its budget alone
abbrev pub is_open : Answer → Bool
is_open (answer.Exact time pair tree) = false
is_open (answer.Between low high pair nodes cause.Budget) = true
is_open (answer.Between low high pair nodes cause.Memory) = false
is_open (answer.Between low high pair nodes cause.Time) = false

-- whether an answer says if a pair is later than a required moment, where there is one
abbrev pub is_answered : Option ℕ → Answer → Bool
is_answered None found = false
is_answered (Some required) (answer.Exact time pair tree) = true
is_answered (Some required) (answer.Between low high pair nodes why) = nat_lt required low || nat_le high required

-- The upper figure is at most the bound of the pins by edges, unless memory ran out.
abbrev pub IsWithinEdges : Problem → Answer → Type 0
IsWithinEdges asked (answer.Exact time pair tree) = Unit {0}
IsWithinEdges asked (answer.Between low high pair nodes why) = (bound : ℕ) → IsBoundBy Edges asked.setting asked.admit.pins (Some bound)
    → why ≢ cause.Memory → high ≤ bound

-- the upper figure, or the time of an exact answer
abbrev pub high_of : Answer → ℕ
high_of found = opened.high_of found

-- the figures of an answer lie within those of an earlier one
pub record IsNarrower (earlier later : Answer) : Type 0 where
  pub low : low_of earlier ≤ low_of later
  pub high : high_of later ≤ high_of earlier
