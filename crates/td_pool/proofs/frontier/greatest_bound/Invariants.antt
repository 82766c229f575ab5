use Rattle.std.proofs.Common.{◌≡◌, drop}
use Rattle.td_search.specs.CutShort.{greatest_of}
use Rattle.td_pool.specs.Frontiers.{bounds_of}
use Rattle.td_pool.proofs.frontier.greatest_bound.Given as goal

abbrev pub invariant-loop-leaf : goal.invariant-loop-leaf
invariant-loop-leaf l = greatest_of l.greatest (bounds_of (drop l.leaf-index l.leaves)) ≡ greatest_of l.low (bounds_of l.leaves)
