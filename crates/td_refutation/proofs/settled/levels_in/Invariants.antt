use Rattle.std.proofs.Common.{◌≡◌, take}
use Rattle.td_refutation.specs.Asking.{levels_by}
use Rattle.td_refutation.proofs.settled.levels_in.Given as goal

abbrev pub invariant-loop-input : goal.invariant-loop-input
invariant-loop-input l = l.levels.items ≡ take l.input (levels_by l.second l.cube)
