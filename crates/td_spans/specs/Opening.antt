-- Opening: the times with which a refutation by spans begins, net by net and in no order.
use Rattle.std.specs.Prelude.{◌≡◌, ℕ, ◌+◌, ◌<◌, true, false, List, length, map, slice_get, Some}
use Rattle.td_circuit.specs.Numbering.{Numbered, first_output}
use Rattle.td_domain.specs.declared.cubes.Trit.{Trit}
use Rattle.td_domain.specs.Admits.{Admitted}
use Rattle.td_edges.specs.declared.signals.Signal.{Signal}
use Rattle.td_edges.specs.EdgeSignals.{constant_signal}
use Rattle.td_spans.specs.declared.times.Times.{Times}
use Rattle.td_spans.specs.Lookups.{IsDriven, driver}
use Rattle.td_spans.specs.Signals.{input_at, output_signal, times_from}

-- Each net has the signal of edges: a constant, an input, which is still or isn't, and a gate's output
-- by the signals of the gate's inputs.
pub record AreEdges (circuit : Numbered) (admit : Admitted) (cube : List Trit) (signals : List Signal) : Type 0 where
  pub whole : length signals ≡ first_output circuit + length circuit.gates
  pub low : slice_get signals 0 ≡ Some (constant_signal false)
  pub high : slice_get signals 1 ≡ Some (constant_signal true)
  pub inputs : (i : ℕ) → i < length circuit.netlist.inputs
      → slice_get signals (2 + i) ≡ Some (input_at admit cube circuit.moments (length circuit.netlist.inputs) i)
  pub gates : (net : ℕ) → IsDriven circuit net → slice_get signals net ≡ Some (output_signal signals (driver circuit net))

-- Each net has the times that its signal gives.
pub record AreFirst (circuit : Numbered) (admit : Admitted) (cube : List Trit) (times : List Times) : Type 0 where
  pub signals : List Signal
  pub are : AreEdges circuit admit cube signals
  pub is : times ≡ map times_from signals
