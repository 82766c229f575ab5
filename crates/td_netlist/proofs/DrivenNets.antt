-- What the checks of drivers say of a module.
use Rattle.std.proofs.Common.{◌≡◌, ◌<◌, ◌≤◌, ℕ, Bool, true, false, cond, List, [], ◌∷◌, ◌++◌, length, map, filter, fold, None, Some, Result, Ok, Err, refl, sym, ap, subst, ◌∙◌, append_assoc, inl, inr}
use Rattle.std.specs.List.{Contains, flat_map, sum_by, AllByRecursion}
use Rattle.std.proofs.lemmas.List.{append-nil, map_push, map-append, take-append-drop}
use Rattle.std.proofs.lemmas.List.Elements.{filter-append}
use Rattle.std.proofs.lemmas.List.Sums.{fold-append}
use Rattle.std.proofs.lemmas.Grind.{flat_map-append}
use Rattle.std.proofs.lemmas.List.Concat.{flat_map-cons}
use Rattle.td_syntax.specs.Grammar as grammar
use Rattle.td_syntax.specs.Grammar.{output_count}
use Rattle.td_netlist.specs.declared.fault.FaultKind.{FaultKind}
use Rattle.td_netlist.specs.declared.fault.FaultKind.TheVariants as kind
use Rattle.td_netlist.specs.declared.fault.Fault.{Fault}
use Rattle.td_nets.specs.Netlist.{Name, Net, Low, High, Named}
use Rattle.td_nets.specs.WellFormed.{IsDistinct}
use Rattle.td_nets.specs.Names.{is_in, with_name}
use Rattle.td_netlist.specs.Faults.{◌>>=◌}
use Rattle.td_netlist.specs.PlacedNets.{different, line_of, Placed, placed_net, placed_in, nets_at, outputs_in, plain_name, names_in, net_count}
use Rattle.td_netlist.specs.Module.{scalar, names_of, is_input, ports_as, declarations, range_in, Source, Joins, source_of, net_of, net_from, terminals_in, outputs_of, inputs_of, Primitive, primitives}
use Rattle.td_netlist.specs.NameFaults.{LeftOutOn, IsNameFault}
use Rattle.td_netlist.specs.Means.{JoinsNet}
use Rattle.td_netlist.specs.Checks.{each, Known, nets_known, know, meet, resolve, Drivers, second_driver, drive_fault, drive_net, seen, see, drives, drive, drive_all, read_from, read_net, read_all, read_placed}
use Rattle.td_netlist.proofs.Members.{either_side, one_of, nowhere, first, later, in_front, behind, between, gathered}
use Rattle.td_netlist.proofs.Distinct.{distinct_nil, distinct_push, distinct_head, distinct_tail}
use Rattle.td_netlist.proofs.Sets.{contains_is, not_contained, is_absent}
use Rattle.td_netlist.proofs.Steps.{ok_both, err_either, unless_ok, unless_err, kept, stops, kept_fitting, stops_fitting, each_append, each_flat, each_map, bind_same}
use Rattle.td_netlist.proofs.Knowing.{few_known, know_err, known_none, in_different, width_by, still_too_many}
use Rattle.td_netlist.proofs.Declaring.{all_names}
use Rattle.td_netlist.proofs.DeclaredNames.{breaks_as}
use Rattle.td_netlist.proofs.Joining.{same_line, KnowsModule, undeclared_scalar, source_is, resolved_ok, is_joined_to, seen_ok, seen_err, HasNoBit, IsNotOne, unjoined, plain_names, met}

-- ---- different names are all kept

pub kept_apart : (seen xs : List Name) → IsDistinct xs → ((name : Name) → Contains xs name → ¬ Contains seen name) → fold with_name seen xs ≡ seen ++ xs
kept_apart seen [] apart free = sym (append-nil seen)
kept_apart seen (x ∷ xs) apart free =
    let new : is_in x seen ≡ false = is_absent x seen (free x (first x xs)) in
    ap (λ (b : Bool). fold with_name (cond b seen (seen ++ x ∷ [])) xs) new
    ∙ kept_apart (seen ++ x ∷ []) xs (distinct_tail x xs apart) (λ name has in_it. elim (either_side name seen (x ∷ []) in_it) [
      | inl before ↦ free name (later name x xs has) before
      | inr last ↦ elim (one_of name x [] last) [
        | inl same ↦ distinct_head x xs apart (subst (λ (y : Name). Contains xs y) (sym same) has)
        | inr none ↦ nowhere name none
      ]
    ])
    ∙ append_assoc seen (x ∷ []) xs

pub different_is : (xs : List Name) → IsDistinct xs → different xs ≡ xs
different_is xs apart = kept_apart [] xs apart (λ name has in_it. nowhere name in_it)

-- ---- terminals in the order of the text

record Terminal : Type 0 where
  pub drives : Bool
  pub at : grammar.Terminal

abbrev driving_one : grammar.Terminal → Terminal
driving_one t = record { drives = true; at = t }

abbrev reading_one : grammar.Terminal → Terminal
reading_one t = record { drives = false; at = t }

abbrev terminals_of : Primitive → List Terminal
terminals_of p = map driving_one (outputs_of p) ++ map reading_one (inputs_of p)

abbrev all_of : List Terminal → List grammar.Terminal
all_of ts = map (λ (t : Terminal). t.at) ts

abbrev driving : List Terminal → List grammar.Terminal
driving ts = all_of (filter (λ (t : Terminal). t.drives) ts)

driving_both : (ts us : List Terminal) → driving (ts ++ us) ≡ driving ts ++ driving us
driving_both ts us = ap all_of (filter-append (λ (t : Terminal). t.drives) ts us) ∙ map-append (λ (t : Terminal). t.at) (filter (λ (t : Terminal). t.drives) ts) (filter (λ (t : Terminal). t.drives) us)

driving_all : (ns : List grammar.Terminal) → driving (map driving_one ns) ≡ ns
driving_all [] = refl
driving_all (n ∷ ns) = ap (λ (ms : List grammar.Terminal). n ∷ ms) (driving_all ns)

driving_none : (ns : List grammar.Terminal) → driving (map reading_one ns) ≡ []
driving_none [] = refl
driving_none (n ∷ ns) = driving_none ns

all_same : (drives : Bool) (ns : List grammar.Terminal) → all_of (map (λ (n : grammar.Terminal). record { drives = drives; at = n }) ns) ≡ ns
all_same drives [] = refl
all_same drives (n ∷ ns) = ap (λ (ms : List grammar.Terminal). n ∷ ms) (all_same drives ns)

driving_are : (ps : List Primitive) → driving (flat_map terminals_of ps) ≡ flat_map outputs_of ps
driving_are [] = refl
driving_are (p ∷ ps) =
    ap driving (flat_map-cons terminals_of p ps)
    ∙ driving_both (terminals_of p) (flat_map terminals_of ps)
    ∙ ap (λ (ns : List grammar.Terminal). ns ++ driving (flat_map terminals_of ps))
    (driving_both (map driving_one (outputs_of p)) (map reading_one (inputs_of p))
    ∙ ap (λ (ns : List grammar.Terminal). ns ++ driving (map reading_one (inputs_of p))) (driving_all (outputs_of p))
    ∙ ap (λ (ns : List grammar.Terminal). outputs_of p ++ ns) (driving_none (inputs_of p))
    ∙ append-nil (outputs_of p))
    ∙ ap (λ (ns : List grammar.Terminal). outputs_of p ++ ns) (driving_are ps)
    ∙ sym (flat_map-cons outputs_of p ps)

all_are : (ps : List Primitive) → all_of (flat_map terminals_of ps) ≡ flat_map (λ (p : Primitive). p.terminals) ps
all_are [] = refl
all_are (p ∷ ps) =
    ap all_of (flat_map-cons terminals_of p ps)
    ∙ map-append (λ (t : Terminal). t.at) (terminals_of p) (flat_map terminals_of ps)
    ∙ ap (λ (ns : List grammar.Terminal). ns ++ all_of (flat_map terminals_of ps))
    (map-append (λ (t : Terminal). t.at) (map driving_one (outputs_of p)) (map reading_one (inputs_of p))
    ∙ ap (λ (ns : List grammar.Terminal). ns ++ all_of (map reading_one (inputs_of p))) (all_same true (outputs_of p))
    ∙ ap (λ (ns : List grammar.Terminal). outputs_of p ++ ns) (all_same false (inputs_of p))
    ∙ take-append-drop (output_count p.kind (length p.terminals)) p.terminals)
    ∙ ap (λ (ns : List grammar.Terminal). p.terminals ++ ns) (all_are ps)
    ∙ sym (flat_map-cons (λ (q : Primitive). q.terminals) p ps)

-- ---- the walk through them

abbrev terminal_step : List Name → Drivers → Terminal → Result Drivers Fault
terminal_step inputs s t = cond t.drives (drive inputs s t.at) (see s t.at)

walk_terminals : (inputs : List Name) (s : Drivers) (p : Primitive) → drive_all inputs s p ≡ each (terminal_step inputs) s (terminals_of p)
unfolding drive_all
walk_terminals inputs s p =
    ap (λ (r : Result Drivers Fault). r >>= λ t. each see t (inputs_of p)) (each_map (terminal_step inputs) driving_one s (outputs_of p))
    ∙ bind_same (each (terminal_step inputs) s (map driving_one (outputs_of p))) (λ t. each see t (inputs_of p)) (λ t. each (terminal_step inputs) t (map reading_one (inputs_of p))) (λ t. each_map (terminal_step inputs) reading_one t (inputs_of p))
    ∙ sym (each_append (terminal_step inputs) s (map driving_one (outputs_of p)) (map reading_one (inputs_of p)))

-- ---- one net driven more

-- the net by its name, if it has one
abbrev pub bits_at : ℕ → Net → List Name
bits_at line net = nets_at (placed_net line net)

fine_by : (a : Bool) (k : FaultKind) → cond a (Some k) None ≡ None → a ≡ false
fine_by true k e = absurd cc
fine_by false k e = refl

refused_by : (a : Bool) (k j : FaultKind) → cond a (Some k) None ≡ Some j → (a ≡ true) × (j ≡ k)
refused_by true k j e = (refl, let same : k ≡ j = cc in sym same)
refused_by false k j e = absurd cc

record DrivesMore (driven t : List Name) (line : ℕ) (net : Net) : Type 0 where
  more : t ≡ driven ++ bits_at line net
  new : (name : Name) → Contains (bits_at line net) name → ¬ Contains driven name

drive_net_ok : (inputs driven t : List Name) (line : ℕ) (net : Net) → drive_net inputs driven line net ≡ Ok t → DrivesMore driven t line net
drive_net_ok inputs driven t line Low e = let same : driven ≡ t = cc in record { more = sym same ∙ sym (append-nil driven); new = λ name has. nowhere name has }
drive_net_ok inputs driven t line High e = let same : driven ≡ t = cc in record { more = sym same ∙ sym (append-nil driven); new = λ name has. nowhere name has }
drive_net_ok inputs driven t line (Named this) e =
    let u = unless_ok (drive_fault inputs driven this) line (driven ++ this ∷ []) t e in
    let absent = not_contained this driven (fine_by (is_in this driven) (second_driver inputs this) u.0) in
    record {
      more = sym u.1;
      new = λ name has. elim (one_of name this [] has) [
        | inl same ↦ subst (λ (x : Name). ¬ Contains driven x) same absent
        | inr none ↦ nowhere name none
      ];
    }

-- which net it is that is driven again
record DrivesAgain (inputs driven : List Name) (line : ℕ) (net : Net) (f : Fault) : Type 0 where
  this : Name
  is : net ≡ Named this
  again : is_in this driven ≡ true
  kind_is : f.kind ≡ second_driver inputs this
  there : line ≡ f.line

drive_net_err : (inputs driven : List Name) (line : ℕ) (net : Net) (f : Fault) → drive_net inputs driven line net ≡ Err f → DrivesAgain inputs driven line net f
drive_net_err inputs driven line Low f e = absurd cc
drive_net_err inputs driven line High f e = absurd cc
drive_net_err inputs driven line (Named this) f e =
    let u = unless_err (drive_fault inputs driven this) line (driven ++ this ∷ []) f e in
    let second = refused_by (is_in this driven) (second_driver inputs this) f.kind u.0 in
    record { this = this; is = refl; again = second.0; kind_is = second.1; there = u.1 }

once_more : (line : ℕ) (net : Net) (names : List Name) → IsDistinct names → ((name : Name) → Contains (bits_at line net) name → ¬ Contains names name) → IsDistinct (names ++ bits_at line net)
once_more line Low names once new = subst IsDistinct (sym (append-nil names)) once
once_more line High names once new = subst IsDistinct (sym (append-nil names)) once
once_more line (Named this) names once new = distinct_push names this once (new this (first this []))

-- ---- what is kept

module _ (m : grammar.Module) where
  inputs : List Name
  inputs = ports_as is_input m

  abbrev driven_by : List Terminal → List Placed
  driven_by ts = placed_in m (driving ts)

  record Drives (s : Drivers) (ts : List Terminal) : Type 0 where
    driven : s.driven ≡ inputs ++ nets_at (driven_by ts)
    names : KnowsModule m s.names (plain_names (all_of ts))
    few_nets : nets_known s.names ≤ 1000000
    joined : (t : grammar.Terminal) → Contains (all_of ts) t → JoinsNet (source_of m t)
    once : IsDistinct (nets_at (driven_by ts))
    free : (name : Name) → Contains (nets_at (driven_by ts)) name → ¬ Contains inputs name

  joined_more : (ts : List Terminal) (t : Terminal) (net : Net) → ((x : grammar.Terminal) → Contains (all_of ts) x → JoinsNet (source_of m x)) → source_of m t.at ≡ Joins net
      → (x : grammar.Terminal) → Contains (all_of (ts ++ t ∷ [])) x → JoinsNet (source_of m x)
  joined_more ts t net so_far is x has = elim (either_side x (all_of ts) (t.at ∷ []) (subst (λ (xs : List grammar.Terminal). Contains xs x) (map_push (λ (y : Terminal). y.at) ts t) has)) [
    | inl before ↦ so_far x before
    | inr last ↦ elim (one_of x t.at [] last) [
      | inl same ↦ subst (λ (y : grammar.Terminal). JoinsNet (source_of m y)) same (is_joined_to (source_of m t.at) net is)
      | inr none ↦ nowhere x none
    ]
  ]

  names_more : (s u : Drivers) (ts : List Terminal) (t : Terminal) → KnowsModule m s.names (plain_names (all_of ts)) → meet s.names t.at ≡ Ok u.names → KnowsModule m u.names (plain_names (all_of (ts ++ t ∷ [])))
  names_more s u ts t keeps e =
      subst (λ (xs : List grammar.Terminal). KnowsModule m u.names (plain_names xs)) (sym (map_push (λ (y : Terminal). y.at) ts t)) (met m s.names u.names (all_of ts) t.at keeps e)

  few_more : (ks u : List Known) (t : grammar.Terminal) → meet ks t ≡ Ok u → nets_known ks ≤ 1000000 → nets_known u ≤ 1000000
  few_more ks u (grammar.Whole n) e few = few_known ks u n None e few
  few_more ks u (grammar.Select n digits) e few = let same : ks ≡ u = cc in subst (λ (js : List Known). nets_known js ≤ 1000000) same few
  few_more ks u (grammar.Level b) e few = let same : ks ≡ u = cc in subst (λ (js : List Known). nets_known js ≤ 1000000) same few

  -- the nets that are driven with one terminal more
  placed_more : (ts : List Terminal) (t : Terminal) → t.drives ≡ true → driven_by (ts ++ t ∷ []) ≡ driven_by ts ++ placed_net (line_of t.at) (net_of m t.at)
  placed_more ts t this =
      let one : driving (t ∷ []) ≡ t.at ∷ [] = rw this refl in
      let place : grammar.Terminal → List Placed = λ x. placed_net (line_of x) (net_of m x) in
      ap (λ (xs : List grammar.Terminal). placed_in m xs) (driving_both ts (t ∷ []) ∙ ap (λ (xs : List grammar.Terminal). driving ts ++ xs) one)
      ∙ flat_map-append (λ (x : grammar.Terminal). placed_net (line_of x) (net_of m x)) (driving ts) (t.at ∷ [])
      ∙ ap (λ (ps : List Placed). driven_by ts ++ ps) (flat_map-cons (λ (x : grammar.Terminal). placed_net (line_of x) (net_of m x)) t.at [] ∙ append-nil (placed_net (line_of t.at) (net_of m t.at)))

  bits_more : (ts : List Terminal) (t : Terminal) (net : Net) → t.drives ≡ true → source_of m t.at ≡ Joins net → nets_at (driven_by (ts ++ t ∷ [])) ≡ nets_at (driven_by ts) ++ bits_at (line_of t.at) net
  bits_more ts t net this is =
      ap nets_at (placed_more ts t this)
      ∙ map-append (λ (p : Placed). p.net) (driven_by ts) (placed_net (line_of t.at) (net_of m t.at))
      ∙ ap (λ (why : Source). nets_at (driven_by ts) ++ bits_at (line_of t.at) (net_from why)) is

  drives_one : (s u : Drivers) (ts : List Terminal) (t : Terminal) → t.drives ≡ true → Drives s ts → drive inputs s t.at ≡ Ok u → Drives u (ts ++ t ∷ [])
  unfolding drive drives
  drives_one s u ts t this keeps e =
      let a = ok_both (seen s t.at) _ u e in
      let sees = seen_ok s t.at a.0 a.1 in
      let net = a.0.0 in
      let is = source_is m s.names (plain_names (all_of ts)) keeps.names t.at net sees.resolves in
      let b = ok_both (drive_net inputs a.0.1.driven (line_of t.at) net) _ u a.2 in
      let more = drive_net_ok inputs s.driven b.0 (line_of t.at) net (ap (λ (driven : List Name). drive_net inputs driven (line_of t.at) net) (sym sees.same_driven) ∙ ap (λ (line : ℕ). drive_net inputs a.0.1.driven line net) (sym (same_line t.at)) ∙ b.1) in
      let names = bits_more ts t net this is in
      let new : (name : Name) → Contains (bits_at (line_of t.at) net) name → ¬ Contains (inputs ++ nets_at (driven_by ts)) name =
      λ name has. subst (λ (ns : List Name). ¬ Contains ns name) keeps.driven (more.new name has) in
      let made : record { driven = b.0; names = a.0.1.names } ≡ u = cc in
      subst (λ (v : Drivers). Drives v (ts ++ t ∷ [])) made (record {
        driven =
            more.more
            ∙ ap (λ (ns : List Name). ns ++ bits_at (line_of t.at) net) keeps.driven
            ∙ append_assoc inputs (nets_at (driven_by ts)) (bits_at (line_of t.at) net)
            ∙ ap (λ (ns : List Name). inputs ++ ns) (sym names);
        names = names_more s a.0.1 ts t keeps.names sees.meets;
        few_nets = few_more s.names a.0.1.names t.at sees.meets keeps.few_nets;
        joined = joined_more ts t net keeps.joined is;
        once = subst IsDistinct (sym names) (once_more (line_of t.at) net (nets_at (driven_by ts)) keeps.once (λ name has in_it. new name has (behind name inputs (nets_at (driven_by ts)) in_it)));
        free = λ name has. elim (either_side name (nets_at (driven_by ts)) (bits_at (line_of t.at) net) (subst (λ (ns : List Name). Contains ns name) names has)) [
          | inl before ↦ keeps.free name before
          | inr last ↦ λ in_it. new name last (in_front name inputs (nets_at (driven_by ts)) in_it)
        ];
      })

  sees_one : (s u : Drivers) (ts : List Terminal) (t : Terminal) → t.drives ≡ false → Drives s ts → see s t.at ≡ Ok u → Drives u (ts ++ t ∷ [])
  unfolding see
  sees_one s u ts t this keeps e =
      let a = ok_both (seen s t.at) _ u e in
      let sees = seen_ok s t.at a.0 a.1 in
      let is = source_is m s.names (plain_names (all_of ts)) keeps.names t.at a.0.0 sees.resolves in
      let same : driving (ts ++ t ∷ []) ≡ driving ts = driving_both ts (t ∷ []) ∙ ap (λ (ns : List grammar.Terminal). driving ts ++ ns) (rw this refl) ∙ append-nil (driving ts) in
      let made : a.0.1 ≡ u = cc in
      subst (λ (v : Drivers). Drives v (ts ++ t ∷ [])) made (record {
        driven = sees.same_driven ∙ keeps.driven ∙ ap (λ (ns : List grammar.Terminal). inputs ++ nets_at (placed_in m ns)) (sym same);
        names = names_more s a.0.1 ts t keeps.names sees.meets;
        few_nets = few_more s.names a.0.1.names t.at sees.meets keeps.few_nets;
        joined = joined_more ts t a.0.0 keeps.joined is;
        once = subst (λ (ns : List grammar.Terminal). IsDistinct (nets_at (placed_in m ns))) (sym same) keeps.once;
        free = subst (λ (ns : List grammar.Terminal). (name : Name) → Contains (nets_at (placed_in m ns)) name → ¬ Contains inputs name) (sym same) keeps.free;
      })

  terminals_one : (s u : Drivers) (ts : List Terminal) (t : Terminal) → Drives s ts → terminal_step inputs s t ≡ Ok u → Drives u (ts ++ t ∷ [])
  terminals_one s u ts t keeps e = by t.drives refl e
    where
      by : (b : Bool) → t.drives ≡ b → cond b (drive inputs s t.at) (see s t.at) ≡ Ok u → Drives u (ts ++ t ∷ [])
      by true this e = drives_one s u ts t this keeps e
      by false this e = sees_one s u ts t this keeps e

  start : List Known → Drivers
  start ks = record { driven = inputs; names = ks }

  starts : (ks : List Known) → KnowsModule m ks [] → nets_known ks ≤ 1000000 → Drives (start ks) []
  unfolding start
  starts ks keeps few = record {
    driven = sym (append-nil inputs);
    names = keeps;
    few_nets = few;
    joined = λ t has. nowhere t has;
    once = distinct_nil;
    free = λ name has. nowhere name has;
  }

  primitives_walk : (ps : List Primitive) (s : Drivers) → each (drive_all inputs) s ps ≡ each (terminal_step inputs) s (flat_map terminals_of ps)
  primitives_walk ps s = each_flat (drive_all inputs) (terminal_step inputs) terminals_of (walk_terminals inputs) s ps

  -- what holds once all gates have driven their outputs
  pub record AllDrive (s : Drivers) : Type 0 where
    pub driven : s.driven ≡ ports_as is_input m ++ nets_at (outputs_in m)
    pub names : KnowsModule m s.names (plain_names (terminals_in m))
    pub few_nets : nets_known s.names ≤ 1000000
    pub joined : (t : grammar.Terminal) → Contains (terminals_in m) t → JoinsNet (source_of m t)
    pub once : IsDistinct (nets_at (outputs_in m))
    pub free : (name : Name) → Contains (nets_at (outputs_in m)) name → ¬ Contains (ports_as is_input m) name

  pub all_drive : (ks : List Known) (s : Drivers) → KnowsModule m ks [] → nets_known ks ≤ 1000000
      → each (drive_all (ports_as is_input m)) (record { driven = ports_as is_input m; names = ks }) (primitives m) ≡ Ok s → AllDrive s
  unfolding start inputs
  all_drive ks s keeps few e =
      let ts = flat_map terminals_of (primitives m) in
      let all = kept (terminal_step inputs) Drives terminals_one (start ks) s [] ts (starts ks keeps few) (sym (primitives_walk (primitives m) (start ks)) ∙ e) in
      let outputs : driven_by ts ≡ outputs_in m = ap (λ (xs : List grammar.Terminal). placed_in m xs) (driving_are (primitives m)) in
      let every : all_of ts ≡ terminals_in m = all_are (primitives m) in
      record {
        driven = all.driven ∙ ap (λ (ps : List Placed). inputs ++ nets_at ps) outputs;
        names = subst (λ (xs : List grammar.Terminal). KnowsModule m s.names (plain_names xs)) every all.names;
        few_nets = all.few_nets;
        joined = subst (λ (xs : List grammar.Terminal). (t : grammar.Terminal) → Contains xs t → JoinsNet (source_of m t)) every all.joined;
        once = subst (λ (ps : List Placed). IsDistinct (nets_at ps)) outputs all.once;
        free = subst (λ (ps : List Placed). (name : Name) → Contains (nets_at ps) name → ¬ Contains inputs name) outputs all.free;
      }

  -- ---- where it stops

  module _ (s : Drivers) (before : List Terminal) (t : Terminal) (after : List Terminal)
      (splits : flat_map terminals_of (primitives m) ≡ before ++ t ∷ after) (keeps : Drives s before) where
    outputs_parts : t.drives ≡ true → outputs_in m ≡ driven_by before ++ (placed_net (line_of t.at) (net_of m t.at) ++ driven_by after)
    outputs_parts this =
        let one : driving (t ∷ after) ≡ t.at ∷ driving after = rw this refl in
        ap (λ (xs : List grammar.Terminal). placed_in m xs) (sym (driving_are (primitives m)) ∙ ap driving splits ∙ driving_both before (t ∷ after) ∙ ap (λ (xs : List grammar.Terminal). driving before ++ xs) one)
        ∙ flat_map-append (λ (x : grammar.Terminal). placed_net (line_of x) (net_of m x)) (driving before) (t.at ∷ driving after)
        ∙ ap (λ (ps : List Placed). driven_by before ++ ps) (flat_map-cons (λ (x : grammar.Terminal). placed_net (line_of x) (net_of m x)) t.at (driving after))

    terminals_parts : terminals_in m ≡ all_of before ++ t.at ∷ all_of after
    terminals_parts = sym (all_are (primitives m)) ∙ ap all_of splits ∙ map-append (λ (x : Terminal). x.at) before (t ∷ after)

    stands_there : Contains (terminals_in m) t.at
    stands_there = subst (λ (xs : List grammar.Terminal). Contains xs t.at) (sym terminals_parts) (between (all_of before) t.at (all_of after))

    resolve_breaks : (f : Fault) → resolve s.names t.at ≡ Err f → IsNameFault f.kind f.line m
    resolve_breaks f e = elim (unjoined m s.names (plain_names (all_of before)) keeps.names t.at f e) [
      | HasNoBit why is there ↦ breaks_as m f.line kind.UnknownBit f.kind is (record { terminal = t.at; stands = stands_there; there = there; is = why })
      | IsNotOne why is there ↦ breaks_as m f.line kind.WidthNotOne f.kind is (record { terminal = t.at; stands = stands_there; there = there; is = why })
    ]

    -- the names of the module, from this one on
    names_parts : (n : grammar.Name) → plain_name t.at ≡ n ∷ []
        → names_in m ≡ fold with_name (different ((all_names (declarations m) ++ plain_names (all_of before)) ++ scalar n ∷ [])) (plain_names (all_of after))
    names_parts n is =
        let declared = all_names (declarations m) in
        let plain : plain_names (terminals_in m) ≡ plain_names (all_of before) ++ scalar n ∷ plain_names (all_of after) =
        ap (λ (xs : List grammar.Terminal). plain_names xs) terminals_parts
        ∙ ap names_of (flat_map-append plain_name (all_of before) (t.at ∷ all_of after))
        ∙ map-append scalar (flat_map plain_name (all_of before)) (flat_map plain_name (t.at ∷ all_of after))
        ∙ ap (λ (ns : List grammar.Name). plain_names (all_of before) ++ names_of ns) (flat_map-cons plain_name t.at (all_of after) ∙ ap (λ (ns : List grammar.Name). ns ++ flat_map plain_name (all_of after)) is) in
        ap different (map-append scalar (map (λ (d : _). d.name) (declarations m)) (flat_map plain_name (terminals_in m)))
        ∙ ap (λ (ns : List Name). different (declared ++ ns)) plain
        ∙ ap different (sym (append_assoc declared (plain_names (all_of before)) (scalar n ∷ plain_names (all_of after)))
        ∙ sym (append_assoc (declared ++ plain_names (all_of before)) (scalar n ∷ []) (plain_names (all_of after))))
        ∙ fold-append with_name [] ((declared ++ plain_names (all_of before)) ++ scalar n ∷ []) (plain_names (all_of after))

    know_breaks : (n : grammar.Name) (f : Fault) → plain_name t.at ≡ n ∷ [] → know s.names n None ≡ Err f → IsNameFault f.kind f.line m
    know_breaks n f is e =
        let at = know_err s.names n None f e in
        let names = all_names (declarations m) ++ plain_names (all_of before) in
        let undeclared : None ≡ range_in m n.name =
        sym (undeclared_scalar m (plain_names (all_of before)) n.name
        (λ has. known_none s.names n.name at.new (subst (λ (ns : List Name). Contains ns (scalar n)) (sym keeps.names.are) (in_different names (scalar n) has)))) in
        let more : 1000000 < sum_by (width_by (range_in m)) (fold with_name (different (names ++ scalar n ∷ [])) (plain_names (all_of after))) =
        still_too_many s.names names (range_in m) (range_in m) keeps.names n None (plain_names (all_of after)) (λ k has. refl) at.new undeclared at.many in
        let many : 1000000 < net_count m = subst (λ (ns : List Name). 1000000 < sum_by (width_by (range_in m)) ns) (sym (names_parts n is)) more in
        breaks_as m f.line kind.TooMany f.kind at.is (inr many)

    meet_breaks : (x : grammar.Terminal) (f : Fault) → t.at ≡ x → meet s.names x ≡ Err f → IsNameFault f.kind f.line m
    meet_breaks (grammar.Whole n) f is e = know_breaks n f (ap plain_name is) e
    meet_breaks (grammar.Select n digits) f is e = absurd cc
    meet_breaks (grammar.Level b) f is e = absurd cc

    seen_breaks : (f : Fault) → seen s t.at ≡ Err f → IsNameFault f.kind f.line m
    seen_breaks f e = elim (seen_err s t.at f e) [
      | inl here ↦ resolve_breaks f here
      | inr here ↦ meet_breaks t.at f refl here
    ]

    second_breaks : (b : Bool) (f : Fault) (this : Name) → t.drives ≡ true → net_of m t.at ≡ Named this → is_in this (ports_as is_input m) ≡ b → is_in this s.driven ≡ true → line_of t.at ≡ f.line
        → f.kind ≡ cond b kind.DrivenInput kind.TwoDrivers → IsNameFault f.kind f.line m
    unfolding inputs
    second_breaks true f this drives net input driven there is = breaks_as m f.line kind.DrivenInput f.kind is (record {
      placed = record { net = this; line = line_of t.at };
      stands = subst (λ (ps : List Placed). Contains ps (record { net = this; line = line_of t.at }))
          (sym (outputs_parts drives ∙ ap (λ (x : Net). driven_by before ++ (placed_net (line_of t.at) x ++ driven_by after)) net))
          (between (driven_by before) (record { net = this; line = line_of t.at }) (driven_by after));
      there = there;
      taken = contains_is this (ports_as is_input m) input;
    })
    second_breaks false f this drives net no_input driven there is = breaks_as m f.line kind.TwoDrivers f.kind is (record {
      before = driven_by before;
      placed = record { net = this; line = line_of t.at };
      after = driven_by after;
      splits = outputs_parts drives ∙ ap (λ (x : Net). driven_by before ++ (placed_net (line_of t.at) x ++ driven_by after)) net;
      there = there;
      repeats = (let in_it = subst (λ (ns : List Name). Contains ns this) keeps.driven (contains_is this s.driven driven) in
          elim (either_side this (ports_as is_input m) (nets_at (driven_by before)) in_it) [
            | inl input ↦ absurd (not_contained this (ports_as is_input m) no_input input)
            | inr output ↦ output
          ]);
    })

    drive_breaks : (f : Fault) → t.drives ≡ true → drive (ports_as is_input m) s t.at ≡ Err f → IsNameFault f.kind f.line m
    unfolding drive drives
    drive_breaks f this e = elim (err_either (seen s t.at) _ f e) [
      | inl here ↦ seen_breaks f here
      | inr past ↦ (let sees = seen_ok s t.at past.0 past.1 in
          let net = source_is m s.names (plain_names (all_of before)) keeps.names t.at past.0.0 sees.resolves in
          elim (err_either (drive_net (ports_as is_input m) past.0.1.driven (line_of t.at) past.0.0) _ f past.2) [
            | inl here ↦ (let again = drive_net_err (ports_as is_input m) s.driven (line_of t.at) past.0.0 f (ap (λ (driven : List Name). drive_net (ports_as is_input m) driven (line_of t.at) past.0.0) (sym sees.same_driven) ∙ ap (λ (line : ℕ). drive_net (ports_as is_input m) past.0.1.driven line past.0.0) (sym (same_line t.at)) ∙ here) in
                second_breaks (is_in again.this (ports_as is_input m)) f again.this this (ap net_from net ∙ again.is) refl again.again again.there again.kind_is)
            | inr done ↦ absurd cc
          ])
    ]

    see_breaks : (f : Fault) → see s t.at ≡ Err f → IsNameFault f.kind f.line m
    unfolding see
    see_breaks f e = elim (err_either (seen s t.at) _ f e) [
      | inl here ↦ seen_breaks f here
      | inr past ↦ absurd cc
    ]

    terminal_breaks : (b : Bool) (f : Fault) → t.drives ≡ b → cond b (drive (ports_as is_input m) s t.at) (see s t.at) ≡ Err f → IsNameFault f.kind f.line m
    terminal_breaks true f this e = drive_breaks f this e
    terminal_breaks false f this e = see_breaks f e

  pub drivers_break : (ks : List Known) (f : Fault) → KnowsModule m ks [] → nets_known ks ≤ 1000000
      → each (drive_all (ports_as is_input m)) (record { driven = ports_as is_input m; names = ks }) (primitives m) ≡ Err f → IsNameFault f.kind f.line m
  unfolding start inputs
  drivers_break ks f keeps few e =
      let at = stops (terminal_step inputs) Drives terminals_one (start ks) [] (flat_map terminals_of (primitives m)) f (starts ks keeps few) (sym (primitives_walk (primitives m) (start ks)) ∙ e) in
      terminal_breaks at.state at.before at.member at.after at.splits at.so_far at.member.drives f refl at.refused

  -- ---- reads

  module _ (d : Drivers) (others : List Name) (knows : KnowsModule m d.names others) where
    fine_read : (b : Bool) → cond b None (Some kind.Undriven) ≡ None → b ≡ true
    fine_read true e = refl
    fine_read false e = absurd cc

    refused_read : (b : Bool) (k : FaultKind) → cond b None (Some kind.Undriven) ≡ Some k → (b ≡ false) × (k ≡ kind.Undriven)
    refused_read true k e = absurd cc
    refused_read false k e = (refl, let same : kind.Undriven ≡ k = cc in sym same)

    read_from_ok : (line : ℕ) (net : Net) (u : Unit {0}) → read_from d.driven line net ≡ Ok u → (name : Name) → Contains (bits_at line net) name → Contains d.driven name
    read_from_ok line Low u e name has = nowhere name has
    read_from_ok line High u e name has = nowhere name has
    read_from_ok line (Named this) u e name has =
        let fine = unless_ok (cond (is_in this d.driven) None (Some kind.Undriven)) line tt u e in
        elim (one_of name this [] has) [
          | inl same ↦ subst (λ (x : Name). Contains d.driven x) same (contains_is this d.driven (fine_read (is_in this d.driven) fine.0))
          | inr none ↦ nowhere name none
        ]

    -- the net that isn't driven
    record ReadsUndriven (line : ℕ) (net : Net) (f : Fault) : Type 0 where
      this : Name
      is : net ≡ Named this
      kind_is : f.kind ≡ kind.Undriven
      there : line ≡ f.line
      missing : ¬ Contains d.driven this

    read_from_err : (line : ℕ) (net : Net) (f : Fault) → read_from d.driven line net ≡ Err f → ReadsUndriven line net f
    read_from_err line Low f e = absurd cc
    read_from_err line High f e = absurd cc
    read_from_err line (Named this) f e =
        let u = unless_err (cond (is_in this d.driven) None (Some kind.Undriven)) line tt f e in
        let h = refused_read (is_in this d.driven) f.kind u.0 in
        record { this = this; is = refl; kind_is = h.1; there = u.1; missing = not_contained this d.driven h.0 }

    ReadsDriven : Unit {0} → List grammar.Terminal → Type 0
    ReadsDriven u ts = (name : Name) → Contains (nets_at (placed_in m ts)) name → Contains d.driven name

    abbrev Joined : grammar.Terminal → Type 0
    Joined t = JoinsNet (source_of m t)

    bits_read : (ts : List grammar.Terminal) (t : grammar.Terminal) → nets_at (placed_in m (ts ++ t ∷ [])) ≡ nets_at (placed_in m ts) ++ bits_at (line_of t) (net_of m t)
    bits_read ts t =
        ap nets_at (flat_map-append (λ (x : grammar.Terminal). placed_net (line_of x) (net_of m x)) ts (t ∷ [])
        ∙ ap (λ (ps : List Placed). placed_in m ts ++ ps) (flat_map-cons (λ (x : grammar.Terminal). placed_net (line_of x) (net_of m x)) t [] ∙ append-nil (placed_net (line_of t) (net_of m t))))
        ∙ map-append (λ (p : Placed). p.net) (placed_in m ts) (placed_net (line_of t) (net_of m t))

    -- a read of a terminal that is joined is one of its net
    read_is : (u : Unit {0}) (t : grammar.Terminal) → Joined t → read_net d u t ≡ read_from d.driven (line_of t) (net_of m t)
    unfolding read_net
    read_is u t is =
        ap (λ (r : Result Net Fault). r >>= read_from d.driven (line_of t)) (resolved_ok m d.names others knows t is)
        ∙ ap (λ (line : ℕ). read_from d.driven line (net_of m t)) (same_line t)

    reads_one : (s u : Unit {0}) (ts : List grammar.Terminal) (t : grammar.Terminal) → Joined t → ReadsDriven s ts → read_net d s t ≡ Ok u → ReadsDriven u (ts ++ t ∷ [])
    unfolding ReadsDriven
    reads_one s u ts t is keeps e name has = elim (either_side name (nets_at (placed_in m ts)) (bits_at (line_of t) (net_of m t)) (subst (λ (ns : List Name). Contains ns name) (bits_read ts t) has)) [
      | inl before ↦ keeps name before
      | inr last ↦ read_from_ok (line_of t) (net_of m t) u (sym (read_is s t is) ∙ e) name last
    ]

    reads_walk : (ps : List Primitive) → each (read_all d) tt ps ≡ each (read_net d) tt (flat_map inputs_of ps)
    unfolding read_all
    reads_walk ps = each_flat (read_all d) (read_net d) inputs_of (λ s p. refl) tt ps

    none_read : (u : Unit {0}) → ReadsDriven u []
    unfolding ReadsDriven
    none_read u name has = nowhere name has

    pub all_read : (ps : List Primitive) (u : Unit {0}) → AllByRecursion Joined (flat_map inputs_of ps) → each (read_all d) tt ps ≡ Ok u
        → (name : Name) → Contains (nets_at (placed_in m (flat_map inputs_of ps))) name → Contains d.driven name
    unfolding ReadsDriven
    all_read ps u all e = kept_fitting (read_net d) ReadsDriven Joined reads_one tt u [] (flat_map inputs_of ps) all (none_read tt) (sym (reads_walk ps) ∙ e)

    pub reads_break : (ps : List Primitive) (f : Fault) → AllByRecursion Joined (flat_map inputs_of ps) → each (read_all d) tt ps ≡ Err f → (f.kind ≡ kind.Undriven) × LeftOutOn f.line (placed_in m (flat_map inputs_of ps)) d.driven
    reads_break ps f all e =
        let at = stops_fitting (read_net d) ReadsDriven Joined reads_one tt [] (flat_map inputs_of ps) f all (none_read tt) (sym (reads_walk ps) ∙ e) in
        let t = at.member in
        let no = read_from_err (line_of t) (net_of m t) f (sym (read_is at.state t at.fits) ∙ at.refused) in
        let stands : Contains (flat_map inputs_of ps) t = subst (λ (xs : List grammar.Terminal). Contains xs t) (sym at.splits) (between at.before t at.after) in (
          no.kind_is,
          record {
            placed = record { net = no.this; line = line_of t };
            stands = gathered (λ (x : grammar.Terminal). placed_net (line_of x) (net_of m x)) t (record { net = no.this; line = line_of t }) (flat_map inputs_of ps) stands
                (subst (λ (x : Net). Contains (placed_net (line_of t) x) (record { net = no.this; line = line_of t })) (sym no.is) (first (record { net = no.this; line = line_of t }) []));
            there = no.there;
            missing = no.missing;
          },
        )

    -- ---- outputs

    OutputsDriven : Unit {0} → List Placed → Type 0
    OutputsDriven u ps = (name : Name) → Contains (nets_at ps) name → Contains d.driven name

    outputs_one : (s u : Unit {0}) (ps : List Placed) (p : Placed) → OutputsDriven s ps → read_placed d.driven s p ≡ Ok u → OutputsDriven u (ps ++ p ∷ [])
    unfolding read_placed OutputsDriven
    outputs_one s u ps p keeps e name has = elim (either_side name (nets_at ps) (p.net ∷ []) (subst (λ (ns : List Name). Contains ns name) (map_push (λ (x : Placed). x.net) ps p) has)) [
      | inl before ↦ keeps name before
      | inr last ↦ read_from_ok p.line (Named p.net) u e name last
    ]

    no_outputs : OutputsDriven tt []
    unfolding OutputsDriven
    no_outputs name has = nowhere name has

    pub all_outputs : (ps : List Placed) (u : Unit {0}) → each (read_placed d.driven) tt ps ≡ Ok u → (name : Name) → Contains (nets_at ps) name → Contains d.driven name
    unfolding OutputsDriven
    all_outputs ps u e = kept (read_placed d.driven) OutputsDriven outputs_one tt u [] ps no_outputs e

    pub outputs_break : (ps : List Placed) (f : Fault) → each (read_placed d.driven) tt ps ≡ Err f → (f.kind ≡ kind.Undriven) × LeftOutOn f.line ps d.driven
    unfolding read_placed
    outputs_break ps f e =
        let at = stops (read_placed d.driven) OutputsDriven outputs_one tt [] ps f no_outputs e in
        let no = read_from_err at.member.line (Named at.member.net) f at.refused in
        let same : at.member.net ≡ no.this = let named : Named at.member.net ≡ Named no.this = no.is in cc in (
          no.kind_is,
          record {
            placed = at.member;
            stands = subst (λ (xs : List Placed). Contains xs at.member) (sym at.splits) (between at.before at.member at.after);
            there = no.there;
            missing = subst (λ (x : Name). ¬ Contains d.driven x) (sym same) no.missing;
          },
        )
