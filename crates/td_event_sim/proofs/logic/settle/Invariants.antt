use Rattle.std.proofs.Common.{◌≡◌}
use Rattle.td_event_sim.specs.Rules.{ones_of, rules_of}
use Rattle.td_event_sim.specs.Settling.{AreSettled}
use Rattle.td_event_sim.proofs.Ones.{AreCountedTo}
use Rattle.td_event_sim.proofs.logic.settle.Given as goal

abbrev pub invariant-loop-place : goal.invariant-loop-place
invariant-loop-place l = record {
  settled : AreSettled l.circuit l.vector l.place l.levels;
  counted : AreCountedTo l.circuit.gates l.place l.levels (ones_of l.tallies);
  rules : rules_of l.tallies ≡ rules_of l.initial.tallies;
}
