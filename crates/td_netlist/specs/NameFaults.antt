-- Which fault is reported of a text whose tokens are those of a module: what is wrong with a name
-- or terminal on its line.
use Rattle.std.specs.Prelude.{◌≡◌, ℕ, ◌<◌, ◌⊎◌, List, ◌∷◌, ◌++◌, Err}
use Rattle.std.specs.List.{Contains}
use Rattle.td_syntax.specs.Grammar as grammar
use Rattle.td_syntax.specs.Text.{Parses}
use Rattle.td_netlist.specs.declared.fault.FaultKind.{FaultKind}
use Rattle.td_netlist.specs.declared.fault.FaultKind.TheVariants as kind
use Rattle.td_nets.specs.Netlist.{Name}
use Rattle.td_netlist.specs.Faults.{UnlessMemory, fault}
use Rattle.td_netlist.specs.Checks.{checked_at}
use Rattle.td_netlist.specs.FirstPass.{IsFirstIn}
use Rattle.td_netlist.specs.Module.{scalar, names_of, Declared, declarations, declared_names, is_direction, is_input, is_wire, ports, range_in, ports_as, Source, NoBit, NotOne, source_of, terminals_in}
use Rattle.td_netlist.specs.PlacedNets.{line_of, Placed, nets_at, outputs_in, inputs_in, output_bits, net_count, input_count, driven_in}

-- a name on this line stands before it in the list too
pub record RepeatedOn (line : ℕ) (ns : List grammar.Name) : Type 0 where
  pub before : List grammar.Name
  pub name : grammar.Name
  pub after : List grammar.Name
  pub splits : ns ≡ before ++ name ∷ after
  pub there : name.line ≡ line
  pub repeats : Contains (names_of before) (scalar name)

-- a name of this list on this line isn't among those
pub record MissingOn (line : ℕ) (ns : List grammar.Name) (names : List Name) : Type 0 where
  pub name : grammar.Name
  pub stands : Contains ns name
  pub there : name.line ≡ line
  pub missing : ¬ Contains names (scalar name)

-- a declaration on this line has another range than the first one of its name
pub record RangedOn (line : ℕ) (m : grammar.Module) : Type 0 where
  pub declared : Declared
  pub stands : Contains (declarations m) declared
  pub there : declared.name.line ≡ line
  pub other : ¬ (declared.range ≡ range_in m declared.name.name)

-- a net of this list on this line stands before it in the list too
pub record AgainOn (line : ℕ) (ps : List Placed) : Type 0 where
  pub before : List Placed
  pub placed : Placed
  pub after : List Placed
  pub splits : ps ≡ before ++ placed ∷ after
  pub there : placed.line ≡ line
  pub repeats : Contains (nets_at before) placed.net

-- a net of this list on this line is among those
pub record TakenOn (line : ℕ) (ps : List Placed) (names : List Name) : Type 0 where
  pub placed : Placed
  pub stands : Contains ps placed
  pub there : placed.line ≡ line
  pub taken : Contains names placed.net

-- a net of this list on this line isn't among those
pub record LeftOutOn (line : ℕ) (ps : List Placed) (names : List Name) : Type 0 where
  pub placed : Placed
  pub stands : Contains ps placed
  pub there : placed.line ≡ line
  pub missing : ¬ Contains names placed.net

-- a terminal on this line is no net, for this reason
pub record UnjoinedOn (line : ℕ) (m : grammar.Module) (why : Source) : Type 0 where
  pub terminal : grammar.Terminal
  pub stands : Contains (terminals_in m) terminal
  pub there : line_of terminal ≡ line
  pub is : source_of m terminal ≡ why

-- Redeclared: a name is declared again, or with another range, or a port is listed twice.
abbrev pub IsRedeclaredOn : ℕ → grammar.Module → Type 0
IsRedeclaredOn line m = RepeatedOn line (ports m) ⊎ (RepeatedOn line (declared_names is_direction m) ⊎ (RepeatedOn line (declared_names is_wire m) ⊎ RangedOn line m))

-- PortUndeclared: a direction for a name that is no port, or a port without direction.
abbrev pub IsUndeclaredOn : ℕ → grammar.Module → Type 0
IsUndeclaredOn line m = MissingOn line (declared_names is_direction m) (names_of (ports m)) ⊎ MissingOn line (ports m) (names_of (declared_names is_direction m))

-- Undriven: a net that is read or is an output, and has no driver.
abbrev pub IsUndrivenOn : ℕ → grammar.Module → Type 0
IsUndrivenOn line m = LeftOutOn line (inputs_in m ++ output_bits m) (driven_in m)

-- TooMany: a limit is passed.
abbrev pub PassesALimit : grammar.Module → Type 0
PassesALimit m = (4096 < input_count m) ⊎ (1000000 < net_count m)

-- What a fault says of the names of a module. The other kinds say nothing of names.
abbrev pub IsNameFault : FaultKind → ℕ → grammar.Module → Type 0
IsNameFault kind.Redeclared line m = IsRedeclaredOn line m
IsNameFault kind.PortUndeclared line m = IsUndeclaredOn line m
IsNameFault kind.DrivenInput line m = TakenOn line (outputs_in m) (ports_as is_input m)
IsNameFault kind.TwoDrivers line m = AgainOn line (outputs_in m)
IsNameFault kind.Undriven line m = IsUndrivenOn line m
IsNameFault kind.TooMany line m = PassesALimit m
IsNameFault kind.UnknownBit line m = UnjoinedOn line m NoBit
IsNameFault kind.WidthNotOne line m = UnjoinedOn line m NotOne
IsNameFault k line m = ⊥

-- The grammar derives the text, and a name or terminal on that line breaks the condition, as the
-- first one in the order of the checks.
pub record IsNameFaultIn (text : List ℕ) (k : FaultKind) (line : ℕ) : Type 0 where
  pub tree : grammar.Module
  pub parses : Parses text tree
  pub breaks : IsNameFault k line tree
  pub first : checked_at tree ≡ Err (fault k line)

-- What a fault says of a text: it is the text's first fault of tokens and grammar, or the text has
-- none of these and it is the first of names. It says nothing where memory runs out.
abbrev pub IsFaultIn : List ℕ → FaultKind → ℕ → Type 0
IsFaultIn text k line = UnlessMemory k (IsFirstIn text k line ⊎ IsNameFaultIn text k line)
