-- How deep a netlist is, and how far its delays range.
use Rattle.std.specs.Prelude.{◌≡◌, ◌⊎◌, ℕ, ◌≤◌, List, [], ◌∷◌, length, Option, Some, None, ⊤}
use Rattle.std.specs.List.{Contains}
use Rattle.td_nets.specs.Netlist.{Gate, Netlist}
use Rattle.td_circuit.specs.Loops.{Reads}
use Rattle.td_info.specs.declared.ranges.Range.{Range}

-- the gate reads the output of the first of the others, where there is one
abbrev pub ReadsFirst : Gate → List Gate → Type 0
ReadsFirst gate [] = ⊤
ReadsFirst gate (next ∷ others) = Reads gate next

-- a way through the netlist, listed from its end: gates of the netlist, each of which reads the
-- output of the next
abbrev pub IsWay : Netlist → List Gate → Type 0
IsWay netlist [] = ⊤
IsWay netlist (gate ∷ others) = Contains netlist.gates gate × ReadsFirst gate others × IsWay netlist others

-- the most gates on a way through the netlist
pub record IsDepth (netlist : Netlist) (depth : ℕ) : Type 0 where
  pub way : List Gate
  pub is_way : IsWay netlist way
  pub has : length way ≡ depth
  pub most : (other : List Gate) → IsWay netlist other → length other ≤ depth

-- a gate of the netlist takes this number of steps to 1 or to 0
abbrev pub IsDelayIn : Netlist → ℕ → Type 0
IsDelayIn netlist steps = (gate : Gate) × Contains netlist.gates gate × ((steps ≡ gate.delay.rise) ⊎ (steps ≡ gate.delay.fall))

-- the least and the greatest delay of the netlist's gates
pub record IsDelayRange (netlist : Netlist) (range : Range) : Type 0 where
  pub least : IsDelayIn netlist range.least
  pub greatest : IsDelayIn netlist range.greatest
  pub between : (steps : ℕ) → IsDelayIn netlist steps → (range.least ≤ steps) × (steps ≤ range.greatest)

-- the same, and none where there are no gates
abbrev pub HasRange : Netlist → Option Range → Type 0
HasRange netlist None = netlist.gates ≡ []
HasRange netlist (Some range) = IsDelayRange netlist range
