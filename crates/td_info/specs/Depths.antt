-- Internal: the depths of nets by their numbers.
use Rattle.std.specs.Prelude.{◌≡◌, ◌⊎◌, ℕ, suc, ◌+◌, ◌≤◌, max, List, [], ◌∷◌, length, map, get_or, slice_get, Some}
use Rattle.td_nets.specs.Netlist.{Named, Gate}
use Rattle.td_circuit.specs.Numbering.{Numbered, nets, first_output}
use Rattle.td_info.specs.Sizes.{IsWay}

-- the greatest of some numbers, 0 where there are none
abbrev pub greatest : List ℕ → ℕ
greatest [] = 0
greatest (first ∷ others) = max first (greatest others)

-- the depths of these nets
abbrev pub depths_at : List ℕ → List ℕ → List ℕ
depths_at depths nets = map (λ net. get_or depths net 0) nets

-- a way whose last gate drives the net of this number
pub record WayTo (circuit : Numbered) (number : ℕ) (gate : Gate) (others : List Gate) : Type 0 where
  pub drives : slice_get (nets circuit) number ≡ Some (Named gate.output)
  pub is_way : IsWay circuit.netlist (gate ∷ others)

-- the most gates on a way to the net of this number
pub record IsDepthAt (circuit : Numbered) (number depth : ℕ) : Type 0 where
  pub most : (gate : Gate) (others : List Gate) → WayTo circuit number gate others → suc (length others) ≤ depth
  pub reached : (depth ≡ 0) ⊎ ((gate : Gate) × (others : List Gate) × WayTo circuit number gate others × (suc (length others) ≡ depth))

-- the depths of the constants, of the inputs and of the outputs of the first `place` gates
pub record AreDepths (circuit : Numbered) (depths : List ℕ) (place : ℕ) : Type 0 where
  pub count : length depths ≡ first_output circuit + place
  pub each : (number depth : ℕ) → slice_get depths number ≡ Some depth → IsDepthAt circuit number depth
  pub small : (number depth : ℕ) → slice_get depths number ≡ Some depth → depth ≤ place
