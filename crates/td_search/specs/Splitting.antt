-- When a search may split a cube.
use Rattle.std.specs.Prelude.{ℕ, ◌≤◌, List}
use Rattle.td_domain.specs.declared.cubes.Trit.{Trit}
use Rattle.td_domain.specs.Pairs.{Pair}
use Rattle.td_search.specs.declared.strategy.Strategy.{Strategy}
use Rattle.td_search.specs.declared.strategy.Strategy.TheVariants.{Least, Lead}
use Rattle.td_search.specs.Problems.{Problem, has_delay}
use Rattle.td_search.specs.Representatives.{representative}

-- an admitted pair has this delay, and it is no less than that of the pair that stands for the pins
pub record IsReachedDelay (asked : Problem) (delay : ℕ) : Type 0 where
  pub pair : Pair
  pub is : has_delay asked pair delay
  pub first : ℕ
  pub stands : has_delay asked (representative asked.admit asked.admit.pins) first
  pub no_less : first ≤ delay

-- The cube may be split if its bound is above this delay: with `least` that of its own
-- representative, with `lead` one that some admitted pair has, found or not, and that is no less
-- than that of the pair that stands for the pins.
abbrev pub splits_by : Strategy → Problem → List Trit → ℕ → Type 0
splits_by Least asked cube delay = has_delay asked (representative asked.admit cube) delay
splits_by Lead asked cube delay = IsReachedDelay asked delay

abbrev pub splits_above : Problem → List Trit → ℕ → Type 0
splits_above asked cube delay = splits_by asked.strategy asked cube delay
