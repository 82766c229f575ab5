use Rattle.td_info.specs.Depths.{AreDepths}
use Rattle.td_info.proofs.depths.depths_of.Given as goal

abbrev pub invariant-loop-gate : goal.invariant-loop-gate
invariant-loop-gate l = AreDepths l.circuit l.depths.items l.gate-index
