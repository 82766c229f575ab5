-- No name in a module has a newline where none among its tokens has one.
use Rattle.std.proofs.Common.{List, [], ◌∷◌, ◌++◌, map, Option, None, Some}
use Rattle.std.specs.List.{AllByRecursion, flat_map}
use Rattle.td_nets.specs.declared.keyword.Keyword.TheVariants as keyword
use Rattle.td_syntax.specs.declared.token.Symbol.TheVariants as symbol
use Rattle.td_syntax.specs.Token.{Placed}
use Rattle.td_syntax.specs.Grammar as grammar
use Rattle.td_netlist.specs.Module.{port_name, port_names}
use Rattle.td_vcd.specs.Says.{IsOnOneLine}
use Rattle.td_cli.proofs.TokenNames.{IsFine}

abbrev AreFine : List Placed → Type 0
AreFine ts = AllByRecursion IsFine ts

front : (xs ys : List Placed) → AreFine (xs ++ ys) → AreFine xs
front [] ys fine = tt
front (x ∷ xs) ys fine = (fine.0, front xs ys fine.1)

back : (xs ys : List Placed) → AreFine (xs ++ ys) → AreFine ys
back [] ys fine = fine
back (x ∷ xs) ys fine = back xs ys fine.1

middle : (xs ys zs : List Placed) → AreFine (xs ++ ys ++ zs) → AreFine ys
middle xs ys zs fine = back xs ys (front (xs ++ ys) zs fine)

each : {A : Type 0} (P : A → Type 0) (spell : A → List Placed) → ((x : A) → AreFine (spell x) → P x) → (xs : List A)
    → AreFine (flat_map spell xs) → AllByRecursion P xs
each P spell one [] fine = tt
each P spell one (x ∷ xs) fine =
    (one x (front (spell x) (flat_map spell xs) fine), each P spell one xs (back (spell x) (flat_map spell xs) fine))

separated : {A : Type 0} (P : A → Type 0) (spell : A → List Placed) → ((x : A) → AreFine (spell x) → P x) → (xs : List A)
    → AreFine (grammar.separated spell xs) → AllByRecursion P xs
unfolding grammar.separated
separated P spell one [] fine = tt
separated P spell one (x ∷ []) fine = (one x fine, tt)
separated P spell one (x ∷ y ∷ ys) fine =
    let comma : List Placed = grammar.mark symbol.Comma in
    let others : List Placed = grammar.separated spell (y ∷ ys) in
    (one x (front (spell x) comma (front (spell x ++ comma) others fine)), separated P spell one (y ∷ ys) (back (spell x ++ comma) others fine))

-- ---- the names of a module

abbrev pub IsFineName : grammar.Name → Type 0
IsFineName n = IsOnOneLine n.name

abbrev pub IsFineTerminal : grammar.Terminal → Type 0
IsFineTerminal (grammar.Whole n) = IsFineName n
IsFineTerminal (grammar.Select n digits) = IsFineName n
IsFineTerminal (grammar.Level b) = Unit {0}

abbrev pub IsFineInstance : grammar.Instance → Type 0
IsFineInstance i = AllByRecursion IsFineTerminal i.terminals

abbrev pub IsFineItem : grammar.Item → Type 0
IsFineItem (grammar.Declares d) = Unit {0}
IsFineItem (grammar.Gates s) = AllByRecursion IsFineInstance s.instances

-- those that a netlist has
pub record HasFineNames (m : grammar.Module) : Type 0 where
  pub own : IsFineName m.name
  pub ports : AllByRecursion IsFineName (port_names m.ports)
  pub items : AllByRecursion IsFineItem m.items

abbrev IsFinePort : grammar.Port → Type 0
IsFinePort p = IsFineName (port_name p)

name_fine : (n : grammar.Name) → AreFine (grammar.name n) → IsFineName n
name_fine n fine = fine.0

port_fine : (p : grammar.Port) → AreFine (grammar.port p) → IsFinePort p
port_fine (grammar.Bare n) fine = name_fine n fine
port_fine (grammar.Headed h) fine =
    let before : List Placed =
    grammar.attributes h.attributes ++ grammar.role_word h.role ++ grammar.wire_word h.wire ++ grammar.optional grammar.range h.range in
    name_fine h.name (back before (grammar.name h.name) fine)

named_ports : (ps : List grammar.Port) → AllByRecursion IsFinePort ps → AllByRecursion IsFineName (map port_name ps)
named_ports [] fine = tt
named_ports (p ∷ ps) fine = (fine.0, named_ports ps fine.1)

ports_fine : (ps : Option grammar.Ports) → AreFine (grammar.ports ps) → AllByRecursion IsFineName (port_names ps)
ports_fine None fine = tt
ports_fine (Some (grammar.Names ns)) fine =
    separated IsFineName grammar.name name_fine ns
    (middle (grammar.mark symbol.Open) (grammar.separated grammar.name ns) (grammar.mark symbol.Close) fine)
ports_fine (Some (grammar.Declared ps)) fine =
    named_ports ps (separated IsFinePort grammar.port port_fine ps
    (middle (grammar.mark symbol.Open) (grammar.separated grammar.port ps) (grammar.mark symbol.Close) fine))

terminal_fine : (t : grammar.Terminal) → AreFine (grammar.terminal t) → IsFineTerminal t
terminal_fine (grammar.Whole n) fine = name_fine n fine
terminal_fine (grammar.Select n digits) fine = name_fine n (front (grammar.name n) (grammar.select digits) fine)
terminal_fine (grammar.Level b) fine = tt

instance_fine : (i : grammar.Instance) → AreFine (grammar.instance i) → IsFineInstance i
instance_fine i fine =
    separated IsFineTerminal grammar.terminal terminal_fine i.terminals
    (middle (grammar.optional grammar.name i.name ++ grammar.mark symbol.Open) (grammar.separated grammar.terminal i.terminals)
    (grammar.mark symbol.Close) fine)

item_fine : (i : grammar.Item) → AreFine (grammar.item i) → IsFineItem i
item_fine (grammar.Declares d) fine = tt
item_fine (grammar.Gates s) fine =
    separated IsFineInstance grammar.instance instance_fine s.instances
    (middle (grammar.attributes s.attributes ++ grammar.word (keyword.Gate s.kind) ++ grammar.delay s.delay)
    (grammar.separated grammar.instance s.instances) (grammar.mark symbol.Semicolon) fine)

pub module_fine : (m : grammar.Module) → AreFine (grammar.module_tokens m) → HasFineNames m
module_fine m fine =
    let before : List Placed = flat_map grammar.front m.fronts ++ grammar.word keyword.Module in
    let named : List Placed = before ++ grammar.name m.name in
    let ported : List Placed = named ++ grammar.ports m.ports in
    let headed : List Placed = ported ++ grammar.mark symbol.Semicolon in
    let listed : List Placed = headed ++ flat_map grammar.item m.items in
    let whole : List Placed = listed ++ grammar.word keyword.EndModule in
    let to_items : AreFine listed = front listed (grammar.word keyword.EndModule) (front whole (flat_map grammar.directed m.behind) fine) in
    let to_ports : AreFine ported = front ported (grammar.mark symbol.Semicolon) (front headed (flat_map grammar.item m.items) to_items) in
    record {
      own = name_fine m.name (back before (grammar.name m.name) (front named (grammar.ports m.ports) to_ports));
      ports = ports_fine m.ports (back named (grammar.ports m.ports) to_ports);
      items = each IsFineItem grammar.item item_fine m.items (back headed (flat_map grammar.item m.items) to_items);
    }
