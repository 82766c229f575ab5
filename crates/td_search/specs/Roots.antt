-- What is known of the pins before a search begins.
use Rattle.std.specs.Prelude.{◌<◌, ◌^◌}
use Rattle.td_search.specs.declared.root.Root.{Root}
use Rattle.td_search.specs.Problems.{Problem, has_delay, has_bound}
use Rattle.td_search.specs.Representatives.{representative}

-- the delay of the pair that stands for the pins, and the strongest domain's bound of them
pub record IsRoot (asked : Problem) (root : Root) : Type 0 where
  pub first : has_delay asked (representative asked.admit asked.admit.pins) root.first
  pub bound : has_bound asked asked.admit.pins root.bound
  pub small : root.bound < 10 ^ 15
