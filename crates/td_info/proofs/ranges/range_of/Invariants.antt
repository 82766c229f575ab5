use Rattle.std.proofs.Common.{◌≡◌, drop, None}
use Rattle.td_info.specs.Ranges.{ranged}
use Rattle.td_info.proofs.ranges.range_of.Given as goal

abbrev pub invariant-loop-gate : goal.invariant-loop-gate
invariant-loop-gate l = ranged l.range (drop l.gate-index l.circuit.gates) ≡ ranged None l.circuit.gates
