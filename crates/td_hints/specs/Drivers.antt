-- Nets that gate outputs drive and may not, as a text spells them.
use Rattle.std.specs.Prelude.{◌≡◌, ℕ, ◌<◌, min, List, Option, None, Some}
use Rattle.std.specs.List.{flat_map, slice_get}
use Rattle.td_syntax.specs.Grammar as grammar
use Rattle.td_syntax.specs.Grammar.{decimal_value}
use Rattle.td_syntax.specs.Text.{Parses}
use Rattle.td_nets.specs.Netlist.{Name}
use Rattle.td_netlist.specs.Module.{primitives, outputs_of}
use Rattle.td_netlist.specs.PlacedNets.{Placed}
use Rattle.td_netlist.specs.declared.fault.FaultKind.{FaultKind}
use Rattle.td_netlist.specs.declared.fault.FaultKind.TheVariants as kind
use Rattle.td_hints.specs.declared.drivers.Driven as code_driven
use Rattle.td_hints.specs.declared.drivers.Clash as code_clash

-- What a terminal names, as the text spells it, and its line. Constants have no name. No vector has
-- a bit above 1,000,000,000: those are one here.
abbrev pub spelled : grammar.Terminal → Option Placed
spelled (grammar.Whole n) = Some (record { net = record { text = n.name; bit = None }; line = n.line })
spelled (grammar.Select n digits) = Some (record { net = record { text = n.name; bit = Some (min (decimal_value digits) 1000000001) }; line = n.line })
spelled (grammar.Level b) = None

abbrev pub option_spelled : Option grammar.Terminal → Option Placed
option_spelled None = None
option_spelled (Some t) = spelled t

abbrev pub spelled_at : List grammar.Terminal → ℕ → Option Placed
spelled_at ts place = option_spelled (slice_get ts place)

-- the terminals of a module that drive, in the order of the text
abbrev pub outputs : grammar.Module → List grammar.Terminal
outputs m = flat_map outputs_of (primitives m)

-- a terminal of this list is spelled so, on this line
pub record IsDriven (ts : List grammar.Terminal) (net : Name) (line : ℕ) : Type 0 where
  pub place : ℕ
  pub there : spelled_at ts place ≡ Some (record { net = net; line = line })

-- two terminals of this list are spelled so, on these lines, in this order
pub record IsSecond (ts : List grammar.Terminal) (net : Name) (first line : ℕ) : Type 0 where
  pub before : ℕ
  pub after : ℕ
  pub order : before < after
  pub earlier : spelled_at ts before ≡ Some (record { net = net; line = first })
  pub later : spelled_at ts after ≡ Some (record { net = net; line = line })

-- a gate output of the text drives the net, on this line
pub record IsDrivenIn (text : List ℕ) (net : Name) (line : ℕ) : Type 0 where
  pub tree : grammar.Module
  pub parses : Parses text tree
  pub driven : IsDriven (outputs tree) net line

-- two gate outputs of the text drive the net, on these lines, in this order
pub record IsSecondIn (text : List ℕ) (net : Name) (first line : ℕ) : Type 0 where
  pub tree : grammar.Module
  pub parses : Parses text tree
  pub driven : IsSecond (outputs tree) net first line

-- What a fault on this line says of the net. Where it is an input, the first line is tested.
abbrev pub IsTaken : FaultKind → List ℕ → Name → ℕ → ℕ → Type 0
IsTaken kind.TwoDrivers text net first line = IsSecondIn text net first line
IsTaken k text net first line = IsDrivenIn text net line

-- ---- what the search keeps, without where it lies in memory

abbrev pub driven_of : code_driven.Driven → Name
driven_of d = record { text = d.name.now; bit = d.bit }

abbrev pub clash_of : code_clash.Clash → Placed
clash_of c = record { net = driven_of c.driven; line = c.line }

abbrev pub option_driven_of : Option (code_driven.Driven × ℕ) → Option Placed
option_driven_of None = None
option_driven_of (Some d) = Some (record { net = driven_of d.0; line = d.1 })
