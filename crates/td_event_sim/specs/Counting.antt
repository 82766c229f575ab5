-- How many of a gate's inputs are at 1.
use Rattle.std.specs.Prelude.{◌≡◌, ℕ, ◌+◌, ◌-◌, ◌*◌, ◌%◌, ◌^◌, ◌==◌, ◌<◌, ◌≤◌, Bool, true, false, List, [], ◌∷◌, length, slice_get, slice_index, slice_index_or, Some, cond, count_by}
use Rattle.td_circuit.specs.Numbering.{NumberedGate}
use Rattle.td_event_sim.specs.Bits.{bit_at}

-- how often a number stands in a list
abbrev pub times : ℕ → List ℕ → ℕ
times number [] = 0
times number (first ∷ rest) = cond (first == number) (1 + times number rest) (times number rest)

-- the count of each gate is how many of its inputs are at 1
abbrev pub AreCounted : List NumberedGate → List Bool → List ℕ → Type 0
AreCounted gates levels ones = (place : ℕ) (gate : NumberedGate) → slice_get gates place ≡ Some gate
    → slice_index ones place ≡ count_by (bit_at levels) gate.inputs

-- the output of each gate is a reader of each net as often as the gate reads it
abbrev pub AreListed : ℕ → List NumberedGate → List (List ℕ) → Type 0
AreListed first_output gates readers = (place : ℕ) (gate : NumberedGate) (net : ℕ) → slice_get gates place ≡ Some gate
    → times (first_output + place) (slice_index_or readers net []) ≡ times net gate.inputs

-- a gate has at most 1,023 inputs
abbrev pub AreNarrow : List NumberedGate → Type 0
AreNarrow gates = (place : ℕ) (gate : NumberedGate) → slice_get gates place ≡ Some gate → length gate.inputs ≤ 1023

-- a count of 32 bits after this number of inputs rose, or fell
abbrev pub recounted : Bool → ℕ → ℕ → ℕ
recounted true inputs ones = (ones + inputs) % 2 ^ 32
recounted false inputs ones = (ones + inputs * (2 ^ 32 - 1)) % 2 ^ 32

-- the counts of the gates with these outputs after a net rose, or fell, that they read
pub record AreRecounted (first_output : ℕ) (readers : List ℕ) (rises : Bool) (ones new_ones : List ℕ) : Type 0 where
  pub count : length new_ones ≡ length ones
  pub each : (place : ℕ) → place < length ones → slice_index ones place < 2 ^ 32
      → slice_index new_ones place ≡ recounted rises (times (first_output + place) readers) (slice_index ones place)

-- where the counts were right, so they are
abbrev pub StayCounted : ℕ → List (List ℕ) → List Bool → List Bool → List ℕ → List ℕ → Type 0
StayCounted first_output readers levels new_levels ones new_ones = (gates : List NumberedGate) → AreListed first_output gates readers → AreNarrow gates
    → length gates ≡ length ones → AreCounted gates levels ones → AreCounted gates new_levels new_ones
