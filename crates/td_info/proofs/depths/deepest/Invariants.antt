use Rattle.std.proofs.Common.{◌≡◌, drop, max}
use Rattle.td_info.specs.Depths.{greatest}
use Rattle.td_info.proofs.depths.deepest.Given as goal

abbrev pub invariant-loop-depth : goal.invariant-loop-depth
invariant-loop-depth l = max l.deepest (greatest (drop l.depth-index l.depths)) ≡ greatest l.depths
