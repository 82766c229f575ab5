-- A netlist that keeps some of its outputs.
use Rattle.std.specs.Prelude.{◌≡◌, ◌<◌, ℕ, List, [], ◌∷◌, length, map, slice_get, Option, Some, None}
use Rattle.std.specs.List.{Contains}
use Rattle.td_nets.specs.Netlist.{Name, Netlist}
use Rattle.td_nets.specs.Outputs.{with_outputs}

-- each number is less than all that come after it
abbrev pub Rise : List ℕ → Type 0
Rise [] = Unit {0}
Rise (number ∷ later) = ((other : ℕ) → Contains later other → number < other) × Rise later

-- these are numbers of outputs, rising: from 0, in the order of the port list
pub record AreOutputs (netlist : Netlist) (numbers : List ℕ) : Type 0 where
  pub rising : Rise numbers
  pub within : (number : ℕ) → Contains numbers number → number < length netlist.outputs

-- these are the names of the outputs with these numbers
abbrev pub AreAt : Netlist → List ℕ → List Name → Type 0
AreAt netlist numbers names = map (λ number. slice_get netlist.outputs number) numbers ≡ map (λ name. Some name) names

-- the netlist whose outputs are those with these numbers
abbrev pub HasOutputsAt : Netlist → List ℕ → Netlist → Type 0
HasOutputsAt whole numbers netlist = (names : List Name) × AreAt whole numbers names × (netlist ≡ with_outputs whole names)

-- these are numbers of outputs, or none for all of them
abbrev pub AreNumbers : Netlist → Option (List ℕ) → Type 0
AreNumbers netlist None = Unit {0}
AreNumbers netlist (Some numbers) = AreOutputs netlist numbers

-- the whole netlist, or the one whose outputs are those with these numbers
abbrev pub HasOutputs : Netlist → Option (List ℕ) → Netlist → Type 0
HasOutputs whole None netlist = netlist ≡ whole
HasOutputs whole (Some numbers) netlist = HasOutputsAt whole numbers netlist
