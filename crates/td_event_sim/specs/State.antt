-- What the simulator holds at a moment, by the run.
use Rattle.std.specs.Prelude.{◌≡◌, ℕ, zero, suc, ◌+◌, ◌^◌, ◌<◌, ◌≤◌, Bool, List, length, slice_get, slice_index, slice_index_or, Some, if◌then◌else◌}
use Rattle.std.specs.List.{All}
use Rattle.td_gates.specs.declared.primitives.Level.TheVariants.{X}
use Rattle.td_gates.specs.Delays.{IsInRange}
use Rattle.td_gates.specs.Table.{level_eq, level_from, TakesInputs}
use Rattle.td_gates.specs.Wave.{Wave, at, before}
use Rattle.td_gates.specs.Schedule.{GateState, updated, state_before}
use Rattle.td_circuit.specs.Numbering.{NumberedGate, Numbered, nets, first_output}
use Rattle.td_run.specs.Waves.{constant, waves_of}
use Rattle.td_event_sim.specs.Bits.{bit_at}
use Rattle.td_event_sim.specs.Moment.{event_of}

-- the wave of a net
abbrev pub wave_at : List Wave → ℕ → Wave
wave_at waves net = slice_index_or waves net (constant X)

-- the state of a gate before a moment, in a run
abbrev pub gate_before : List Wave → NumberedGate → ℕ → GateState
gate_before waves gate t = state_before gate.kind gate.delay (waves_of waves gate.inputs) t

-- A run of a circuit by the numbers of its nets, with a level and an event of each net before each
-- moment, as far as the simulator needs it.
pub record IsRunBy (circuit : Numbered) (waves : List Wave) (states : ℕ → ℕ → GateState) : Type 0 where
  pub count : length (nets circuit) ≡ first_output circuit + length circuit.gates
  pub levels : (net t : ℕ) → net < length (nets circuit) → before (wave_at waves net) t ≡ (states net t).level
  -- a constant and an input do what their event says, and nothing else
  pub low : (net t : ℕ) → net < first_output circuit → states net (suc t) ≡ updated t (states net t).level (states net t).scheduled
  -- a gate obeys the scheduling rule
  pub gates : (place : ℕ) (gate : NumberedGate) → slice_get circuit.gates place ≡ Some gate
      → (t : ℕ) → states (first_output circuit + place) t ≡ gate_before waves gate t
  pub lower : (place : ℕ) (gate : NumberedGate) → slice_get circuit.gates place ≡ Some gate → All (λ net. net < length (nets circuit)) gate.inputs
  pub takes : (place : ℕ) (gate : NumberedGate) → slice_get circuit.gates place ≡ Some gate → TakesInputs gate.kind (length gate.inputs)
  pub range : (place : ℕ) (gate : NumberedGate) → slice_get circuit.gates place ≡ Some gate → IsInRange gate.delay
  -- nothing changes from 2^63 on
  pub late : (net t : ℕ) → net < length (nets circuit) → 2 ^ 63 ≤ t → at (wave_at waves net) t ≡ before (wave_at waves net) t

-- the moment of the latest change before a moment, 0 where there was none
abbrev pub latest_before : Wave → ℕ → ℕ
latest_before wave zero = 0
latest_before wave (suc t) = if level_eq (at wave t) (before wave t) then latest_before wave t else t

-- the simulator has come to a moment of a run
pub record IsStateBefore (circuit : Numbered) (waves : List Wave) (states : ℕ → ℕ → GateState) (t : ℕ) (levels : List Bool) (whens latest : List ℕ) : Type 0 where
  pub same_levels : length levels ≡ length (nets circuit)
  pub same_whens : length whens ≡ length (nets circuit)
  pub same_latest : length latest ≡ length (nets circuit)
  pub levels_are : (net : ℕ) → net < length (nets circuit) → level_from (bit_at levels net) ≡ before (wave_at waves net) t
  pub events_are : (net : ℕ) → net < length (nets circuit) → event_of (bit_at levels net) (slice_index whens net) ≡ (states net t).scheduled
  pub latest_are : (net : ℕ) → net < length (nets circuit) → slice_index latest net ≡ latest_before (wave_at waves net) t
