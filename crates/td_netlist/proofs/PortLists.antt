-- What the walk through the port list and the items of a module says of it.
use Rattle.std.proofs.Common.{◌≡◌, true, List, [], ◌∷◌, ◌++◌, map, Option, None, Some, Result, Ok, Err, refl, sym, ap, subst, ◌∙◌, append_assoc, inl, inr}
use Rattle.std.specs.List.{Contains, flat_map, AllByRecursion}
use Rattle.std.proofs.lemmas.List.{map_push}
use Rattle.td_syntax.specs.declared.syntax.Role.{Role}
use Rattle.td_syntax.specs.declared.syntax.Role.TheVariants as role
use Rattle.td_syntax.specs.Grammar as grammar
use Rattle.td_syntax.specs.Grammar.{IsPort, ArePorts}
use Rattle.td_netlist.specs.declared.ranges.Range.{Range}
use Rattle.td_netlist.specs.declared.fault.FaultKind.TheVariants as kind
use Rattle.td_netlist.specs.declared.fault.Fault.{Fault}
use Rattle.td_nets.specs.Netlist.{Name}
use Rattle.td_nets.specs.Names.{is_in}
use Rattle.td_netlist.specs.Faults.{◌>>=◌}
use Rattle.td_netlist.specs.Ranges.{range_of}
use Rattle.td_netlist.specs.Module.{scalar, names_of, Declared, is_direction, item_declared, ports_from, ports_declared, declarations, port_name, port_names, ports}
use Rattle.td_netlist.specs.NameFaults.{IsNameFault}
use Rattle.td_netlist.specs.Checks.{each, list_port, Lists, nothing, with_port, declare_direction, declare_item, declare_port, declare_ports}
use Rattle.td_netlist.proofs.Members.{in_front, behind, first}
use Rattle.td_netlist.proofs.Sets.{is_contained}
use Rattle.td_netlist.proofs.Steps.{ok_both, err_either, kept, stops, kept_fitting, stops_fitting, each_flat, each_map}
use Rattle.td_netlist.proofs.Declaring.{named_push, lists_one, listed_again}
use Rattle.td_netlist.proofs.DeclaredNames.{breaks_as, Declares, declares_nothing, declares, directs_one, declares_one, direction_breaks, declared_breaks}

-- ---- one port more

lists_port : (names : List grammar.Name) (s t : Lists) (ds : List Declared) (n : grammar.Name) → Declares names s ds → with_port s n ≡ Ok t → Declares (names ++ n ∷ []) t ds
lists_port names s t ds n keeps e =
    let a = ok_both (list_port s.listed n) _ t e in
    let more = lists_one s.listed a.0 names n keeps.listed keeps.listed_once a.1 in
    let made : record { listed = a.0; directions = s.directions; inputs = s.inputs; wires = s.wires; names = s.names } ≡ t = cc in
    subst (λ (u : Lists). Declares (names ++ n ∷ []) u ds) made (record {
      listed = more.are;
      listed_once = more.once;
      directions = keeps.directions;
      inputs = keeps.inputs;
      wires = keeps.wires;
      known = keeps.known;
      few_nets = keeps.few_nets;
      ranges = keeps.ranges;
      directed_once = keeps.directed_once;
      wired_once = keeps.wired_once;
      are_ports = λ name has. subst (λ (ns : List Name). Contains ns name) (sym more.is) (in_front name s.listed (scalar n ∷ []) (keeps.are_ports name has));
      few_inputs = keeps.few_inputs;
    })

-- the port that was listed last is listed
listed_last : (names : List grammar.Name) (s : Lists) (ds : List Declared) (n : grammar.Name) → Declares (names ++ n ∷ []) s ds → is_in (scalar n) s.listed ≡ true
listed_last names s ds n keeps =
    is_contained (scalar n) s.listed
    (subst (λ (ns : List Name). Contains ns (scalar n)) (sym (keeps.listed ∙ named_push names n)) (behind (scalar n) (names_of names) (scalar n ∷ []) (first (scalar n) [])))

-- ---- declared ports

abbrev names_declared : List Declared → List grammar.Name
names_declared ds = map (λ (d : Declared). d.name) ds

-- lists a port and declares it
abbrev port_step : Lists → Declared → Result Lists Fault
port_step s d = with_port s d.name >>= λ l. declare_direction d.role d.range l d.name

abbrev IsDirected : Declared → Type 0
IsDirected d = is_direction d.role ≡ true

abbrev PortsDeclare : Lists → List Declared → Type 0
PortsDeclare s ds = Declares (names_declared ds) s ds

port_one : (s t : Lists) (done : List Declared) (d : Declared) → IsDirected d → PortsDeclare s done → port_step s d ≡ Ok t → PortsDeclare t (done ++ d ∷ [])
port_one s t done d this keeps e =
    let a = ok_both (with_port s d.name) _ t e in
    let listed = lists_port (names_declared done) s a.0 done d.name keeps a.1 in
    subst (λ (ns : List grammar.Name). Declares ns t (done ++ d ∷ [])) (sym (map_push (λ (x : Declared). x.name) done d))
    (directs_one (names_declared done ++ d.name ∷ []) a.0 t done d this listed a.2)

-- the walk through the ports is one through what they declare
walk_by : (r : Result Lists Fault) (g : Lists → Result Lists Fault) (way : Role) (range : Option Range) (ps : List grammar.Port) (k : Lists → Result Lists Fault)
    → ((l : Lists) → (each declare_port (record { role = way; range = range; lists = l }) ps >>= λ t. Ok t.lists) ≡ k l)
    → (((r >>= λ l. g l >>= λ all. Ok (record { role = way; range = range; lists = all })) >>= λ t. each declare_port t ps) >>= λ t. Ok t.lists) ≡ ((r >>= g) >>= k)
walk_by (Err e) g way range ps k rest = refl
walk_by (Ok l) g way range ps k rest = by (g l)
  where
    by : (o : Result Lists Fault) → (((o >>= λ all. Ok (record { role = way; range = range; lists = all })) >>= λ t. each declare_port t ps) >>= λ t. Ok t.lists) ≡ (o >>= k)
    by (Err e) = refl
    by (Ok all) = rest all

ports_walk : (way : Role) (range : Option Range) (l : Lists) (ps : List grammar.Port)
    → (each declare_port (record { role = way; range = range; lists = l }) ps >>= λ t. Ok t.lists) ≡ each port_step l (ports_from way range ps)
unfolding each declare_port ports_from
ports_walk way range l [] = refl
ports_walk way range l (grammar.Bare n ∷ ps) =
    walk_by (with_port l n) (λ s. declare_direction way range s n) way range ps (λ s. each port_step s (ports_from way range ps)) (λ s. ports_walk way range s ps)
ports_walk way range l (grammar.Headed h ∷ ps) =
    walk_by (with_port l h.name) (λ s. declare_direction h.role (range_of h.range) s h.name) h.role (range_of h.range) ps (λ s. each port_step s (ports_from h.role (range_of h.range) ps))
    (λ s. ports_walk h.role (range_of h.range) s ps)

heads_directed : (way : Role) → ¬ (way ≡ role.Wire) → is_direction way ≡ true
heads_directed role.Input e = refl
heads_directed role.Output e = refl
heads_directed role.Wire e = absurd (e refl)

all_directed : (way : Role) (range : Option Range) (ps : List grammar.Port) → is_direction way ≡ true → AllByRecursion IsPort ps → AllByRecursion IsDirected (ports_from way range ps)
unfolding ports_from
all_directed way range [] this all = tt
all_directed way range (grammar.Bare n ∷ ps) this all = (this, all_directed way range ps this all.1)
all_directed way range (grammar.Headed h ∷ ps) this all = let head = heads_directed h.role all.0.role in (head, all_directed h.role (range_of h.range) ps head all.1)

names_from : (way : Role) (range : Option Range) (ps : List grammar.Port) → names_declared (ports_from way range ps) ≡ map port_name ps
unfolding ports_from
names_from way range [] = refl
names_from way range (grammar.Bare n ∷ ps) = ap (λ (ns : List grammar.Name). n ∷ ns) (names_from way range ps)
names_from way range (grammar.Headed h ∷ ps) = ap (λ (ns : List grammar.Name). h.name ∷ ns) (names_from h.role (range_of h.range) ps)

-- ---- the port list

abbrev NamesListed : Lists → List grammar.Name → Type 0
NamesListed s done = Declares done s []

names_one : (s t : Lists) (done : List grammar.Name) (n : grammar.Name) → NamesListed s done → with_port s n ≡ Ok t → NamesListed t (done ++ n ∷ [])
names_one s t done n keeps e = lists_port done s t [] n keeps e

declared_walk : (ps : List grammar.Port) → declare_ports (Some (grammar.Declared ps)) ≡ each port_step nothing (ports_from role.Input None ps)
unfolding declare_ports
declared_walk ps = ports_walk role.Input None nothing ps

ports_kept : (o : Option grammar.Ports) (s : Lists) → ArePorts o → declare_ports o ≡ Ok s → Declares (port_names o) s (ports_declared o)
unfolding declare_ports
ports_kept None s are e = let same : nothing ≡ s = cc in subst (λ (t : Lists). Declares [] t []) same declares_nothing
ports_kept (Some (grammar.Names ns)) s are e = kept with_port NamesListed names_one nothing s [] ns declares_nothing e
ports_kept (Some (grammar.Declared ps)) s are e =
    subst (λ (ns : List grammar.Name). Declares ns s (ports_from role.Input None ps)) (names_from role.Input None ps)
    (kept_fitting port_step PortsDeclare IsDirected port_one nothing s [] (ports_from role.Input None ps) (all_directed role.Input None ps refl are.1) declares_nothing (sym (declared_walk ps) ∙ e))

pub ports_declare : (m : grammar.Module) (s : Lists) → ArePorts m.ports → declare_ports m.ports ≡ Ok s → Declares (ports m) s (ports_declared m.ports)
ports_declare m s are e = ports_kept m.ports s are e

-- ---- the items

item_walks : (s : Lists) (i : grammar.Item) → declare_item s i ≡ each declares s (item_declared i)
unfolding declare_item each
item_walks s (grammar.Declares d) = each_map declares (λ (n : grammar.Name). record { role = d.role; range = range_of d.range; name = n }) s d.names
item_walks s (grammar.Gates g) = refl

items_walk : (s : Lists) (is : List grammar.Item) → each declare_item s is ≡ each declares s (flat_map item_declared is)
items_walk s is = each_flat declare_item declares item_declared item_walks s is

pub items_declare : (m : grammar.Module) (s t : Lists) → Declares (ports m) s (ports_declared m.ports) → each declare_item s m.items ≡ Ok t → Declares (ports m) t (declarations m)
items_declare m s t keeps e =
    kept declares (Declares (ports m)) (declares_one (ports m)) s t (ports_declared m.ports) (flat_map item_declared m.items) keeps (sym (items_walk s m.items) ∙ e)

-- ---- where they stop

pub item_breaks : (m : grammar.Module) (s : Lists) (f : Fault) → Declares (ports m) s (ports_declared m.ports) → each declare_item s m.items ≡ Err f → IsNameFault f.kind f.line m
item_breaks m s f keeps e =
    let at = stops declares (Declares (ports m)) (declares_one (ports m)) s (ports_declared m.ports) (flat_map item_declared m.items) f keeps (sym (items_walk s m.items) ∙ e) in
    let splits : declarations m ≡ (ports_declared m.ports ++ at.before) ++ at.member ∷ at.after =
    ap (λ (ds : List Declared). ports_declared m.ports ++ ds) at.splits ∙ sym (append_assoc (ports_declared m.ports) at.before (at.member ∷ at.after)) in
    declared_breaks m (ports m) (ports_declared m.ports ++ at.before) at.member at.after at.state splits at.so_far f at.so_far.listed at.refused

-- a port that is listed again
port_again : (m : grammar.Module) (names : List grammar.Name) (s : Lists) (ds : List Declared) (n : grammar.Name) (after : List grammar.Name) (f : Fault)
    → ports m ≡ names ++ n ∷ after → Declares names s ds → with_port s n ≡ Err f → IsNameFault f.kind f.line m
port_again m names s ds n after f splits keeps e = elim (err_either (list_port s.listed n) _ f e) [
  | inl here ↦ (let at = listed_again s.listed names n after (ports m) f keeps.listed splits here in breaks_as m f.line kind.Redeclared f.kind at.0 (inl at.1))
  | inr past ↦ absurd cc
]

name_breaks : (m : grammar.Module) (f : Fault) → each with_port nothing (ports m) ≡ Err f → IsNameFault f.kind f.line m
name_breaks m f e =
    let at = stops with_port NamesListed names_one nothing [] (ports m) f declares_nothing e in
    port_again m at.before at.state [] at.member at.after f at.splits at.so_far at.refused

head_breaks : (m : grammar.Module) (ds rest : List Declared) (f : Fault) → ports m ≡ names_declared ds → declarations m ≡ ds ++ rest → AllByRecursion IsDirected ds
    → each port_step nothing ds ≡ Err f → IsNameFault f.kind f.line m
head_breaks m ds rest f heads are all e =
    let at = stops_fitting port_step PortsDeclare IsDirected port_one nothing [] ds f all declares_nothing e in
    let names : ports m ≡ names_declared at.before ++ at.member.name ∷ names_declared at.after = heads ∙ ap names_declared at.splits ∙ names_both at.before (at.member ∷ at.after) in
    let splits : declarations m ≡ at.before ++ at.member ∷ (at.after ++ rest) = are ∙ ap (λ (es : List Declared). es ++ rest) at.splits ∙ append_assoc at.before (at.member ∷ at.after) rest in
    elim (err_either (with_port at.state at.member.name) _ f at.refused) [
      | inl here ↦ port_again m (names_declared at.before) at.state at.before at.member.name (names_declared at.after) f names at.so_far here
      | inr past ↦ (let listed = lists_port (names_declared at.before) at.state past.0 at.before at.member.name at.so_far past.1 in
          direction_breaks m (names_declared at.before ++ at.member.name ∷ []) at.before at.member (at.after ++ rest) past.0 splits listed f at.fits
          (λ none. absurd (let there : is_in (scalar at.member.name) past.0.listed ≡ true = listed_last (names_declared at.before) past.0 at.before at.member.name listed in cc))
          past.2)
    ]
  where
    names_both : (xs ys : List Declared) → names_declared (xs ++ ys) ≡ names_declared xs ++ names_declared ys
    names_both [] ys = refl
    names_both (x ∷ xs) ys = ap (λ (ns : List grammar.Name). x.name ∷ ns) (names_both xs ys)

pub port_breaks : (m : grammar.Module) (f : Fault) → ArePorts m.ports → declare_ports m.ports ≡ Err f → IsNameFault f.kind f.line m
unfolding declare_ports
port_breaks m f are e = by m.ports refl are e
  where
    by : (o : Option grammar.Ports) → m.ports ≡ o → ArePorts o → declare_ports o ≡ Err f → IsNameFault f.kind f.line m
    by None is are e = absurd cc
    by (Some (grammar.Names ns)) is are e = name_breaks m f (ap (λ (names : List grammar.Name). each with_port nothing names) (ap port_names is) ∙ e)
    by (Some (grammar.Declared ps)) is are e =
        head_breaks m (ports_from role.Input None ps) (flat_map item_declared m.items) f (ap port_names is ∙ sym (names_from role.Input None ps))
        (ap (λ (o : Option grammar.Ports). ports_declared o ++ flat_map item_declared m.items) is)
        (all_directed role.Input None ps refl are.1) (sym (declared_walk ps) ∙ e)
