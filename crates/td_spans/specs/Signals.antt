-- Signals: those of edges for the admitted pairs of a cube, and the times that they give.
use Rattle.std.specs.Prelude.{ℕ, zero, suc, ◌+◌, ◌*◌, Bool, true, false, List, [], ◌∷◌, ◌++◌, length, map, get_or, slice_get, filter_map, Option, Some, None}
use Rattle.td_gates.specs.declared.primitives.Level.TheVariants.{X}
use Rattle.td_circuit.specs.Numbering.{NumberedGate, Numbered}
use Rattle.td_domain.specs.declared.cubes.Trit.{Trit}
use Rattle.td_domain.specs.declared.cubes.Trit.TheVariants as trit
use Rattle.td_domain.specs.Cubes.{level_of_trit}
use Rattle.td_domain.specs.Admits.{Admitted}
use Rattle.td_edges.specs.declared.signals.Span.{Span}
use Rattle.td_edges.specs.declared.signals.Signal.{Signal}
use Rattle.td_edges.specs.EdgeSignals.{input_signal, constant_signal, gate_signal}
use Rattle.td_spans.specs.declared.times.Times.{Times}
use Rattle.td_spans.specs.Changing.{is_still}
use Rattle.td_spans.specs.Rules.{both}

-- a trit, or the other one where it is free
abbrev pub merged : Trit → Trit → Trit
merged trit.Zero other = trit.Zero
merged trit.One other = trit.One
merged trit.Free other = other

-- an input that never changes
abbrev pub still_signal : Trit → Trit → Signal
still_signal first second = record {
  start = level_of_trit (merged first second);
  finish = level_of_trit (merged second first);
  changes = None;
}

-- what there is of no input
abbrev pub no_signal : Signal
no_signal = record { start = X; finish = X; changes = None }

-- the signal of an input with these trits, which is still, or isn't
abbrev pub signal_by : Bool → Option Trit → Option Trit → ℕ → Signal
signal_by true (Some first) (Some second) moment = still_signal first second
signal_by false (Some first) (Some second) moment = input_signal first second moment
signal_by still first second moment = no_signal

-- the signal of one of so many inputs
abbrev pub input_at : Admitted → List Trit → List ℕ → ℕ → ℕ → Signal
input_at admit cube moments inputs input =
    signal_by (is_still admit cube inputs input) (slice_get cube (2 * input)) (slice_get cube (2 * input + 1)) (get_or moments input 0)

-- the signals of the constants and of the first inputs
abbrev pub inputs_to : Admitted → List Trit → List ℕ → ℕ → ℕ → List Signal
inputs_to admit cube moments inputs zero = constant_signal false ∷ constant_signal true ∷ []
inputs_to admit cube moments inputs (suc input) = inputs_to admit cube moments inputs input ++ input_at admit cube moments inputs input ∷ []

-- the signal of a gate's output by those of nets
abbrev pub output_signal : List Signal → NumberedGate → Signal
output_signal signals gate = gate_signal gate.kind gate.delay (filter_map (slice_get signals) gate.inputs)

-- the signals of the gates' outputs, after others
abbrev pub gates_from : List Signal → List NumberedGate → List Signal
gates_from signals [] = signals
gates_from signals (gate ∷ gates) = gates_from (signals ++ output_signal signals gate ∷ []) gates

-- The signals of all nets, for the admitted pairs of a cube.
abbrev pub first_signals : Numbered → Admitted → List Trit → List Signal
first_signals circuit admit cube =
    gates_from (inputs_to admit cube circuit.moments (length circuit.netlist.inputs) (length circuit.netlist.inputs)) circuit.gates

-- the times that a span gives: a net that never changes keeps its level for ever
abbrev pub times_within : Option Span → Times
times_within None = record { early = None; ends = both 0 }
times_within (Some span) = record { early = Some span.earliest; ends = record { zero = span.falls_until; one = span.rises_until } }

abbrev pub times_from : Signal → Times
times_from signal = times_within signal.changes

-- The first times of all nets, for the admitted pairs of a cube.
abbrev pub first_times : Numbered → Admitted → List Trit → List Times
first_times circuit admit cube = map times_from (first_signals circuit admit cube)
