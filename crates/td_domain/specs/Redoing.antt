-- Evaluating some gates anew.
use Rattle.std.specs.Prelude.{◌≡◌, ℕ, ◌+◌, ◌*◌, ◌<◌, ◌≤◌, ◌^◌, Bool, false, List, length, slice_get, filter_map, Some}
use Rattle.std.specs.List.{Contains}
use Rattle.td_circuit.specs.Numbering.{NumberedGate, Numbered, nets, first_output}
use Rattle.td_domain.specs.Functions.{Functions}
use Rattle.td_domain.specs.Cones.{IsRising}

-- the signal of each net has the reach that its number allows
abbrev pub AreNear : {Sig : Type 0} → (Sig → ℕ) → List Sig → Type 0
AreNear {Sig} reach signals = (net : ℕ) (signal : Sig) → slice_get signals net ≡ Some signal → reach signal ≤ (net + 1) * 10 ^ 9

-- these are outputs of gates of the circuit, rising, and there are signals for all nets
pub record CanRedo {Sig : Type 0} (reach : Sig → ℕ) (circuit : Numbered) (outputs : List ℕ) (signals : List Sig) : Type 0 where
  pub count : length signals ≡ length (nets circuit)
  pub near : AreNear reach signals
  pub rising : IsRising outputs
  pub gates : (output : ℕ) → Contains outputs output
      → (place : ℕ) × (output ≡ first_output circuit + place) × (place < length circuit.gates)

-- at these outputs the signals are those of their gates, at other nets they are as they were
pub record AreAllRedone {Sig : Type 0} (functions : Functions Sig) (reach : Sig → ℕ) (circuit : Numbered)
    (outputs : List ℕ) (old new : List Sig) : Type 0 where
  pub count : length new ≡ length old
  pub near : AreNear reach new
  pub others : (net : ℕ) → ¬ Contains outputs net → slice_get new net ≡ slice_get old net
  pub each : (place : ℕ) (gate : NumberedGate) → slice_get circuit.gates place ≡ Some gate
      → Contains outputs (first_output circuit + place)
      → slice_get new (first_output circuit + place) ≡ Some (functions.gate_of gate.kind gate.delay (filter_map (slice_get new) gate.inputs))

-- the output of each gate that reads no marked net has the signal of its gate
abbrev pub AreSettled : {Sig : Type 0} → Functions Sig → Numbered → List Bool → List Sig → Type 0
AreSettled functions circuit marks signals = (place : ℕ) (gate : NumberedGate) → slice_get circuit.gates place ≡ Some gate
    → ((net : ℕ) → Contains gate.inputs net → slice_get marks net ≡ Some false)
    → slice_get signals (first_output circuit + place) ≡ Some (functions.gate_of gate.kind gate.delay (filter_map (slice_get signals) gate.inputs))
