-- Laws of dumps.
use Rattle.std.specs.Prelude.{◌≡◌, ℕ, List, length, slice_get, Some}
use Rattle.std.specs.List.{AllByRecursion}
use Rattle.td_gates.specs.Wave.{Wave, IsWave, at}
use Rattle.td_nets.specs.Netlist.{Name, Netlist}
use Rattle.td_nets.specs.WellFormed.{driven}
use Rattle.td_vcd.specs.Text.{named_dump, dump}
use Rattle.td_vcd.specs.Says.{IsOnOneLine, SaysWaves}

-- no name of the netlist has a newline
pub record HasNamesOnOneLine (netlist : Netlist) : Type 0 where
  pub own : IsOnOneLine netlist.name
  pub nets : AllByRecursion (λ (name : Name). IsOnOneLine name.text) (driven netlist)

-- read back, a dump of variables with names on one line each says exactly their waves
abbrev pub SaysTheNamed : Type 0
SaysTheNamed = (netlist : Netlist) (names : List Name) (waves : List Wave) → IsOnOneLine netlist.name
    → AllByRecursion (λ (name : Name). IsOnOneLine name.text) names → AllByRecursion IsWave waves
    → length waves ≡ length names → SaysWaves (named_dump netlist names waves) waves

-- read back, a dump of a wave for each driven net says exactly these waves
abbrev pub SaysTheWaves : Type 0
SaysTheWaves = (netlist : Netlist) (waves : List Wave) → HasNamesOnOneLine netlist → AllByRecursion IsWave waves
    → length waves ≡ length (driven netlist) → SaysWaves (dump netlist waves) waves

-- two lists of waves that a text says have the same length, and each wave the levels of the other's
abbrev pub SaysOneThing : Type 0
SaysOneThing = (text : List ℕ) (a b : List Wave) → SaysWaves text a → SaysWaves text b
    → (length a ≡ length b) × ((variable : ℕ) (x y : Wave) → slice_get a variable ≡ Some x → slice_get b variable ≡ Some y
    → (x.start ≡ y.start) × ((t : ℕ) → at x t ≡ at y t))
