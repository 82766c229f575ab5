-- The delays of pairs that were measured before.
use Rattle.std.specs.Prelude.{◌≡◌, ℕ, Bool, List, length, Option, None, Some}
use Rattle.std.specs.List.{All}
use Rattle.td_circuit.specs.Numbering.{Numbered, setting}
use Rattle.td_circuit.specs.Run.{IsDelayOfBits}

-- two vectors, and the delay of the pair that they are, where it was measured
pub record Cached : Type 0 where
  pub first : List Bool
  pub second : List Bool
  pub delay : Option ℕ

-- nothing was measured yet, with room for `inputs` bits in each vector
pub record IsEmpty (inputs : ℕ) (cached : Cached) : Type 0 where
  pub first : length cached.first ≡ inputs
  pub second : length cached.second ≡ inputs
  pub delay : cached.delay ≡ None

-- the delay of a pair of vectors, and the only one
pub record IsTheDelay (circuit : Numbered) (first second : List Bool) (delay : ℕ) : Type 0 where
  pub is : IsDelayOfBits (setting circuit) first second delay
  pub only : (other : ℕ) → IsDelayOfBits (setting circuit) first second other → other ≡ delay

-- what is held of one pair has a bit for each input, and its delay is that of the pair
pub record IsOf (circuit : Numbered) (cached : Cached) : Type 0 where
  pub first : length cached.first ≡ length circuit.netlist.inputs
  pub second : length cached.second ≡ length circuit.netlist.inputs
  pub delay : (delay : ℕ) → cached.delay ≡ Some delay → IsTheDelay circuit cached.first cached.second delay

-- for each place there is one, and each is of the circuit
pub record AreOf (circuit : Numbered) (places : List Cached) : Type 0 where
  pub count : length places ≡ 16
  pub each : All (IsOf circuit) places
