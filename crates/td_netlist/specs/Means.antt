-- When a text means a netlist.
use Rattle.std.specs.Prelude.{◌≡◌, ℕ, ◌≤◌, List, length}
use Rattle.std.specs.List.{Contains}
use Rattle.td_gates.specs.declared.timing.Delay.{Delay}
use Rattle.td_syntax.specs.Grammar as grammar
use Rattle.td_syntax.specs.Text.{Parses}
use Rattle.td_nets.specs.Netlist.{Name, Netlist}
use Rattle.td_nets.specs.WellFormed.{IsDistinct, IsWellFormed}
use Rattle.td_netlist.specs.Module.{names_of, Declared, declarations, declared_names, is_direction, is_wire, ports, range_in, nets_named, Source, Joins, source_of, terminals_in, netlist_in}

-- Each port is listed once and has one direction, no other name has one, no name is a wire twice,
-- and what is declared twice has one range.
pub record AreDeclared (m : grammar.Module) : Type 0 where
  pub listed_once : IsDistinct (names_of (ports m))
  pub directed_once : IsDistinct (names_of (declared_names is_direction m))
  pub wired_once : IsDistinct (names_of (declared_names is_wire m))
  pub are_ports : (name : Name) → Contains (names_of (declared_names is_direction m)) name → Contains (names_of (ports m)) name
  pub are_directed : (name : Name) → Contains (names_of (ports m)) name → Contains (names_of (declared_names is_direction m)) name
  pub one_range : (d : Declared) → Contains (declarations m) d → d.range ≡ range_in m d.name.name

-- a terminal is joined to a net
abbrev pub JoinsNet : Source → Type 0
JoinsNet (Joins net) = Unit {0}
JoinsNet none = ⊥

-- each terminal is a constant, a scalar, a vector of one bit or a bit that its vector has
pub record TerminalsJoinNets (m : grammar.Module) : Type 0 where
  pub each : (t : grammar.Terminal) → Contains (terminals_in m) t → JoinsNet (source_of m t)

-- The nets of the declared names and of the plain names of terminals are a million at most.
pub record HasFewNets (m : grammar.Module) : Type 0 where
  pub nets : List Name
  pub few : length nets ≤ 1000000
  pub declared : (d : Declared) → Contains (declarations m) d → (net : Name) → Contains (nets_named m d.name) net → Contains nets net
  pub plain : (n : grammar.Name) → Contains (terminals_in m) (grammar.Whole n) → (net : Name) → Contains (nets_named m n) net → Contains nets net

-- The text, with this delay for gates that state none, means the netlist: a syntax tree spells the
-- text's tokens, its names are declared and joined to nets, and the netlist that it lists is
-- well-formed.
pub record Means (text : List ℕ) (default : Delay) (netlist : Netlist) : Type 0 where
  pub tree : grammar.Module
  pub parses : Parses text tree
  pub declared : AreDeclared tree
  pub joined : TerminalsJoinNets tree
  pub few_nets : HasFewNets tree
  pub lists : netlist ≡ netlist_in default tree
  pub formed : IsWellFormed netlist

-- a text means at most one netlist
abbrev pub MeansOne : Type 0
MeansOne = (text : List ℕ) (default : Delay) (one other : Netlist) → Means text default one → Means text default other → one ≡ other
