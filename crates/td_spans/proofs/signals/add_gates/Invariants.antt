use Rattle.std.proofs.Common.{◌≡◌, ◌≤◌, ◌+◌, ◌*◌, ℕ, length, drop, Some}
use Rattle.std.specs.Prelude.{slice_get, ◌^◌}
use Rattle.td_circuit.specs.Numbering.{first_output}
use Rattle.td_edges.specs.declared.signals.Signal.{Signal}
use Rattle.td_edges.specs.Coverage.{span_reach}
use Rattle.td_spans.specs.Signals.{gates_from}
use Rattle.td_spans.proofs.signals.add_gates.Given as goal

abbrev pub invariant-loop-gate : goal.invariant-loop-gate
invariant-loop-gate l = record {
  is : gates_from l.signals.items (drop l.gate-index l.circuit.gates) ≡ gates_from l.initial.signals.items l.circuit.gates;
  count : length l.signals.items ≡ first_output l.circuit + l.gate-index;
  near : (net : ℕ) (signal : Signal) → slice_get l.signals.items net ≡ Some signal → span_reach signal.changes ≤ (net + 1) * 10 ^ 9;
}
