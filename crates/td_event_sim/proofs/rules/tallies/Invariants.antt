use Rattle.std.proofs.Common.{◌≡◌, length, map}
use Rattle.td_circuit.specs.Views.{gate_of}
use Rattle.td_event_sim.specs.Rules.{AreRules, rules_of}
use Rattle.td_event_sim.proofs.rules.tallies.Given as goal

abbrev pub invariant-loop-gate : goal.invariant-loop-gate
invariant-loop-gate l = record {
  count : length l.tallies.items ≡ l.gate-index;
  rules : AreRules (map gate_of l.gates) (rules_of l.tallies.items);
}
