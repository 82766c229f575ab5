-- The best pair that a search has found.
use Rattle.std.specs.Prelude.{◌≡◌, ℕ}
use Rattle.td_domain.specs.Pairs.{Pair}
use Rattle.td_search.specs.declared.strategy.Strategy.TheVariants.{Lead}
use Rattle.td_search.specs.Problems.{Problem, has_delay}
use Rattle.td_search.specs.Splitting.{IsReachedDelay}

-- a pair and its delay
pub record Found : Type 0 where
  pub time : ℕ
  pub pair : Pair

-- the pair is admitted and has the delay, and with `lead` it is one that the search has reached
abbrev pub IsKept : Problem → Found → Type 0
IsKept asked best = has_delay asked best.pair best.time × (asked.strategy ≡ Lead → IsReachedDelay asked best.time)

-- the pair is admitted and has the delay, which is no less than that of the pair that stands for
-- the pins
abbrev pub IsBest : Problem → Found → Type 0
IsBest asked best = has_delay asked best.pair best.time × IsReachedDelay asked best.time
