-- Internal: what is known where no answer is exact.
use Rattle.std.specs.Prelude.{ℕ, ◌<◌, ◌≤◌, ◌^◌}
use Rattle.td_domain.specs.Worst.{IsUpperBound}
use Rattle.td_lead.specs.Timed.{IsTimed}
use Rattle.td_search.specs.Problems.{Problem}
use Rattle.td_worst.specs.declared.refuting.OpenAnswer.{OpenAnswer}

-- The best pair is admitted and has its time, no admitted pair has a delay above the upper figure,
-- and the trees had at most as many nodes as the budget says.
pub record IsOpenAnswer (asked : Problem) (budget : ℕ) (known : OpenAnswer) : Type 0 where
  pub best : IsTimed asked.setting asked.admit known.best
  pub high : IsUpperBound asked.setting asked.admit known.high
  pub within : known.nodes ≤ budget
  pub small : known.high < 10 ^ 15
