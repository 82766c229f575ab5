-- What the checks of declarations say of a module.
use Rattle.std.proofs.Common.{◌≡◌, ℕ, ◌+◌, ◌<◌, ◌≤◌, Bool, true, false, cond, List, [], ◌∷◌, ◌++◌, map, filter, fold, Option, None, Some, Result, Ok, Err, refl, sym, ap, subst, ◌∙◌, append_assoc, arith, ◌⊎◌, inl, inr}
use Rattle.std.specs.Prelude.{not, is_some, nat_lt}
use Rattle.std.specs.List.{Contains, flat_map, sum_by}
use Rattle.std.proofs.lemmas.Bool.{ltb-true, ltb-false, eqb-true, eq-eqb, and_parts, and_from}
use Rattle.std.proofs.lemmas.List.{append-nil, map-append}
use Rattle.std.proofs.lemmas.List.Sums.{fold-append, sum_by-cons}
use Rattle.td_syntax.specs.declared.syntax.Role.{Role}
use Rattle.td_syntax.specs.declared.syntax.Role.TheVariants as role
use Rattle.td_syntax.specs.Grammar as grammar
use Rattle.td_netlist.specs.declared.ranges.Range.{Range}
use Rattle.td_netlist.specs.declared.fault.FaultKind.{FaultKind}
use Rattle.td_netlist.specs.declared.fault.FaultKind.TheVariants as kind
use Rattle.td_netlist.specs.declared.fault.Fault.{Fault}
use Rattle.td_nets.specs.Netlist.{Name}
use Rattle.td_nets.specs.WellFormed.{IsDistinct}
use Rattle.td_nets.specs.Names.{is_in, with_name}
use Rattle.td_netlist.specs.Faults.{unless}
use Rattle.td_netlist.specs.Ranges.{width_of}
use Rattle.td_netlist.specs.PlacedNets.{different, plain_name, names_in, net_count, input_count}
use Rattle.td_netlist.specs.Module.{scalar, names_of, Declared, is_input, is_wire, is_direction, ports, declarations, declared_names, range_in, terminals_in}
use Rattle.td_netlist.specs.NameFaults.{RepeatedOn, RangedOn, IsNameFault}
use Rattle.td_netlist.specs.Checks.{Known, known, same_number, is_other, nets_known, know, direction_of, direction_fault, wire_fault, input_bits, Lists, nothing, declare, declare_wire, declare_direction}
use Rattle.td_netlist.proofs.Members.{either_side, one_of, nowhere, between, mapped}
use Rattle.td_netlist.proofs.Distinct.{distinct_nil, distinct_push}
use Rattle.td_netlist.proofs.Sets.{contains_is, not_contained}
use Rattle.td_netlist.proofs.Steps.{ok_both, err_either, unless_ok, unless_err}
use Rattle.td_netlist.proofs.Knowing.{named, known_some, known_none, AreKnown, none_are_known, knows_one, few_known, know_err, width_by, still_too_many, of_different, in_different}
use Rattle.td_netlist.proofs.Declaring.{named_push, declared_as, declared_more, declared_same, declared_split, with_direction, directed_more, directed_same, all_names, all_push, all_both, input_width, range_by, range_kept, range_new, undirected, directed_there}

-- ---- what a role is

direction_or_wire : (r : Role) → ((is_wire r ≡ true) × (is_direction r ≡ false) × (is_input r ≡ false)) ⊎ ((is_wire r ≡ false) × (is_direction r ≡ true))
direction_or_wire role.Input = inr (refl, refl)
direction_or_wire role.Output = inr (refl, refl)
direction_or_wire role.Wire = inl (refl, refl, refl)

pub no_wire : (r : Role) → is_direction r ≡ true → is_wire r ≡ false
no_wire role.Input e = refl
no_wire role.Output e = refl
no_wire role.Wire e = absurd cc

pub breaks_as : (m : grammar.Module) (line : ℕ) (k j : FaultKind) → j ≡ k → IsNameFault k line m → IsNameFault j line m
breaks_as m line k j same breaks = subst (λ (i : FaultKind). IsNameFault i line m) (sym same) breaks

-- ---- the faults of a declaration

directed_fine : (a b c d : Bool) → cond a (Some kind.Redeclared) (cond b (Some kind.Redeclared) (cond (not c) (Some kind.PortUndeclared) (cond d (Some kind.TooMany) None))) ≡ None
    → (a ≡ false) × (b ≡ false) × (c ≡ true) × (d ≡ false)
directed_fine true b c d e = absurd cc
directed_fine false true c d e = absurd cc
directed_fine false false false d e = absurd cc
directed_fine false false true true e = absurd cc
directed_fine false false true false e = (refl, refl, refl, refl)

-- which of the four tests it was
data Refuses (a b c d : Bool) (k : FaultKind) : Type 0 where
  Twice : a ≡ true → k ≡ kind.Redeclared → Refuses a b c d k
  Other : b ≡ true → k ≡ kind.Redeclared → Refuses a b c d k
  NoPort : c ≡ false → k ≡ kind.PortUndeclared → Refuses a b c d k
  Many : d ≡ true → k ≡ kind.TooMany → Refuses a b c d k

directed_refused : (a b c d : Bool) (k : FaultKind) → cond a (Some kind.Redeclared) (cond b (Some kind.Redeclared) (cond (not c) (Some kind.PortUndeclared) (cond d (Some kind.TooMany) None))) ≡ Some k → Refuses a b c d k
directed_refused true b c d k e = Twice refl (let same : kind.Redeclared ≡ k = cc in sym same)
directed_refused false true c d k e = Other refl (let same : kind.Redeclared ≡ k = cc in sym same)
directed_refused false false false d k e = NoPort refl (let same : kind.PortUndeclared ≡ k = cc in sym same)
directed_refused false false true true k e = Many refl (let same : kind.TooMany ≡ k = cc in sym same)
directed_refused false false true false k e = absurd cc

wired_fine : (a b : Bool) → cond a (Some kind.Redeclared) (cond b (Some kind.Redeclared) None) ≡ None → (a ≡ false) × (b ≡ false)
wired_fine true b e = absurd cc
wired_fine false true e = absurd cc
wired_fine false false e = (refl, refl)

wired_refused : (a b : Bool) (k : FaultKind) → cond a (Some kind.Redeclared) (cond b (Some kind.Redeclared) None) ≡ Some k → ((a ≡ true) ⊎ (b ≡ true)) × (k ≡ kind.Redeclared)
wired_refused true b k e = (inl refl, let same : kind.Redeclared ≡ k = cc in sym same)
wired_refused false true k e = (inr refl, let same : kind.Redeclared ≡ k = cc in sym same)
wired_refused false false k e = absurd cc

-- ---- ranges of a name that is known

same_range : (a b : Option Range) → same_number a b ≡ true → a ≡ b
same_range None None e = refl
same_range None (Some b) e = absurd cc
same_range (Some a) None e = absurd cc
same_range (Some a) (Some b) e =
    let parts = and_parts _ _ e in
    let left : a.left ≡ b.left = eqb-true a.left b.left parts.0 in
    let right : a.right ≡ b.right = eqb-true a.right b.right parts.1 in
    ap (λ (n : ℕ). Some (record { left = n; right = a.right })) left ∙ ap (λ (n : ℕ). Some (record { left = b.left; right = n })) right

range_same : (a : Option Range) → same_number a a ≡ true
range_same None = refl
range_same (Some a) = and_from _ _ (eq-eqb a.left a.left refl) (eq-eqb a.right a.right refl)

fits : (o : Option Known) (range : Option Range) (k : Known) → is_other o range ≡ false → o ≡ Some k → k.range ≡ range
fits None range k e is = absurd cc
fits (Some j) range k e is =
    let same : j ≡ k = cc in
    ap (λ (i : Known). i.range) (sym same) ∙ same_range j.range range (by (same_number j.range range) e)
  where
    by : (b : Bool) → not b ≡ false → b ≡ true
    by true e = refl
    by false e = absurd cc

differs : (o : Option Known) (range : Option Range) → is_other o range ≡ true → (k : Known) × (o ≡ Some k) × ¬ (range ≡ k.range)
differs None range e = absurd cc
differs (Some k) range e = (k, refl, λ same. by (same_number k.range range) (ap (λ (r : Option Range). same_number k.range r) same ∙ range_same k.range) e)
  where
    by : (b : Bool) → b ≡ true → not b ≡ true → ⊥
    by true is e = cc
    by false is e = cc

-- ---- how many inputs there are

width_push : (ds : List Declared) (d : Declared) → input_width (ds ++ d ∷ []) ≡ input_width ds + input_bits d.role d.range
width_push [] d = by (is_input d.role)
  where
    by : (b : Bool) → sum_by (λ (x : Declared). width_of x.range) (cond b (d ∷ []) []) ≡ 0 + cond b (width_of d.range) 0
    by true = omega (arith, sum_by-cons (λ (x : Declared). width_of x.range) d [])
    by false = refl
width_push (x ∷ ds) d = by (is_input x.role) (width_push ds d)
  where
    all_of : List Declared → List Declared
    all_of es = filter (λ (y : Declared). is_input y.role) es

    by : (b : Bool) → input_width (ds ++ d ∷ []) ≡ input_width ds + input_bits d.role d.range
        → sum_by (λ (y : Declared). width_of y.range) (cond b (x ∷ filter (λ (y : Declared). is_input y.role) (ds ++ d ∷ [])) (filter (λ (y : Declared). is_input y.role) (ds ++ d ∷ [])))
        ≡ sum_by (λ (y : Declared). width_of y.range) (cond b (x ∷ filter (λ (y : Declared). is_input y.role) ds) (filter (λ (y : Declared). is_input y.role) ds)) + input_bits d.role d.range
    by true rest =
        omega (
          arith,
          rest,
          sum_by-cons (λ (y : Declared). width_of y.range) x (filter (λ (y : Declared). is_input y.role) ds),
          sum_by-cons (λ (y : Declared). width_of y.range) x (filter (λ (y : Declared). is_input y.role) (ds ++ d ∷ [])),
        )
    by false rest = rest

width_both : (ds es : List Declared) → input_width ds ≤ input_width (ds ++ es)
width_both ds [] = subst (λ (xs : List Declared). input_width ds ≤ input_width xs) (sym (append-nil ds)) (omega arith)
width_both ds (d ∷ es) = let push = width_push ds d in let more = width_both (ds ++ d ∷ []) es in
    subst (λ (xs : List Declared). input_width ds ≤ input_width xs) (append_assoc ds (d ∷ []) es) (omega (arith, push, more))

-- ---- what is kept

pub record Declares (heads : List grammar.Name) (s : Lists) (ds : List Declared) : Type 0 where
  pub listed : s.listed ≡ names_of heads
  pub listed_once : IsDistinct (names_of heads)
  pub directions : s.directions ≡ with_direction ds
  pub inputs : s.inputs ≡ input_width ds
  pub wires : s.wires ≡ names_of (declared_as is_wire ds)
  pub known : AreKnown s.names (all_names ds) (range_by ds)
  pub few_nets : nets_known s.names ≤ 1000000
  pub ranges : (d : Declared) → Contains ds d → d.range ≡ range_by ds d.name.name
  pub directed_once : IsDistinct (names_of (declared_as is_direction ds))
  pub wired_once : IsDistinct (names_of (declared_as is_wire ds))
  pub are_ports : (name : Name) → Contains (names_of (declared_as is_direction ds)) name → Contains s.listed name
  pub few_inputs : input_width ds ≤ 4096

pub declares_nothing : Declares [] nothing []
declares_nothing = record {
  listed = refl;
  listed_once = distinct_nil;
  directions = refl;
  inputs = refl;
  wires = refl;
  known = none_are_known (range_by []);
  few_nets = omega arith;
  ranges = λ d has. nowhere d has;
  directed_once = distinct_nil;
  wired_once = distinct_nil;
  are_ports = λ name has. nowhere name has;
  few_inputs = omega arith;
}

abbrev pub declares : Lists → Declared → Result Lists Fault
declares s d = declare d.role d.range s d.name

name_stands : (ds : List Declared) (d : Declared) → Contains ds d → Contains (all_names ds) (scalar d.name)
name_stands ds d has = mapped scalar d.name (map (λ (x : Declared). x.name) ds) (mapped (λ (x : Declared). x.name) d ds has)

-- ---- what is known with one declaration more

module _ (ks : List Known) (ds : List Declared) (keeps : AreKnown ks (all_names ds) (range_by ds)) where
  known_declared : (k : Known) → Contains ks k → Contains (all_names ds) (named k.text)
  known_declared k has = of_different (all_names ds) (named k.text) (subst (λ (ns : List Name). Contains ns (named k.text)) keeps.are (mapped (λ (j : Known). named j.text) k ks has))

  found_declared : (text : List ℕ) (k : Known) → known ks text ≡ Some k → Contains (all_names ds) (named text)
  found_declared text k e = let found = known_some ks text k e in subst (λ (t : List ℕ). Contains (all_names ds) (named t)) found.1 (known_declared k found.0)

  unknown_undeclared : (text : List ℕ) → known ks text ≡ None → ¬ Contains (all_names ds) (named text)
  unknown_undeclared text e has = known_none ks text e (subst (λ (ns : List Name). Contains ns (named text)) (sym keeps.are) (in_different (all_names ds) (named text) has))

  module _ (d : Declared) where
    knows_declared : (t : List Known) → know ks d.name d.range ≡ Ok t → AreKnown t (all_names (ds ++ d ∷ [])) (range_by (ds ++ d ∷ []))
    knows_declared t e = subst (λ (ns : List Name). AreKnown t ns (range_by (ds ++ d ∷ []))) (sym (all_push ds d))
        (knows_one ks (all_names ds) (range_by ds) keeps (range_by (ds ++ d ∷ [])) (λ k has. range_kept ds (d ∷ []) k.text (known_declared k has)) d.name t d.range e
        (λ unknown. sym (range_new ds d [] (unknown_undeclared d.name.name unknown))))

    ranges_more : is_other (known ks d.name.name) d.range ≡ false → ((x : Declared) → Contains ds x → x.range ≡ range_by ds x.name.name)
        → (x : Declared) → Contains (ds ++ d ∷ []) x → x.range ≡ range_by (ds ++ d ∷ []) x.name.name
    ranges_more same ranges x has = elim (either_side x ds (d ∷ []) has) [
      | inl before ↦ ranges x before ∙ sym (range_kept ds (d ∷ []) x.name.name (name_stands ds x before))
      | inr last ↦ elim (one_of x d [] last) [
        | inl is ↦ subst (λ (y : Declared). y.range ≡ range_by (ds ++ d ∷ []) y.name.name) is (by (known ks d.name.name) refl)
        | inr none ↦ nowhere x none
      ]
    ]
      where
        by : (o : Option Known) → known ks d.name.name ≡ o → d.range ≡ range_by (ds ++ d ∷ []) d.name.name
        by None e = sym (range_new ds d [] (unknown_undeclared d.name.name e))
        by (Some k) e =
            let found = known_some ks d.name.name k e in
            sym (fits (known ks d.name.name) d.range k same e) ∙ keeps.own k found.0 ∙ ap (range_by ds) found.1 ∙ sym (range_kept ds (d ∷ []) d.name.name (found_declared d.name.name k e))

-- ---- one declaration more

pub directs_one : (listed : List grammar.Name) (s t : Lists) (ds : List Declared) (d : Declared) → is_direction d.role ≡ true
    → Declares listed s ds → declare_direction d.role d.range s d.name ≡ Ok t → Declares listed t (ds ++ d ∷ [])
unfolding declare_direction
directs_one listed s t ds d this keeps e =
    let a = ok_both (unless {A = Unit {0}} (direction_fault s d.role d.range d.name) d.name.line tt) _ t e in
    let fine = unless_ok (direction_fault s d.role d.range d.name) d.name.line tt a.0 a.1 in
    let free = directed_fine (is_some (direction_of s.directions d.name)) (is_other (known s.names d.name.name) d.range) (is_in (scalar d.name) s.listed) (nat_lt 4096 (s.inputs + input_bits d.role d.range)) fine.0 in
    let b = ok_both (know s.names d.name d.range) _ t a.2 in
    let wire = no_wire d.role this in
    let more : names_of (declared_as is_direction (ds ++ d ∷ [])) ≡ names_of (declared_as is_direction ds) ++ scalar d.name ∷ [] =
    ap names_of (declared_more is_direction ds d this) ∙ named_push (declared_as is_direction ds) d.name in
    let new : ¬ Contains (names_of (declared_as is_direction ds)) (scalar d.name) =
    undirected (with_direction ds) d.name (ap (λ (es : List Declared). is_some (direction_of es d.name)) (sym keeps.directions) ∙ free.0) in
    let wider = width_push ds d in
    let few = ltb-false _ _ free.3 in
    let made : record { listed = s.listed; directions = s.directions ++ d ∷ []; inputs = s.inputs + input_bits d.role d.range; wires = s.wires; names = b.0 } ≡ t = cc in
    subst (λ (u : Lists). Declares listed u (ds ++ d ∷ [])) made (record {
      listed = keeps.listed;
      listed_once = keeps.listed_once;
      directions = ap (λ (es : List Declared). es ++ d ∷ []) keeps.directions ∙ sym (directed_more ds d this);
      inputs = ap (λ (n : ℕ). n + input_bits d.role d.range) keeps.inputs ∙ sym wider;
      wires = keeps.wires ∙ ap names_of (sym (declared_same is_wire ds d wire));
      known = knows_declared s.names ds keeps.known d b.0 b.1;
      few_nets = few_known s.names b.0 d.name d.range b.1 keeps.few_nets;
      ranges = ranges_more s.names ds keeps.known d free.1 keeps.ranges;
      directed_once = subst IsDistinct (sym more) (distinct_push (names_of (declared_as is_direction ds)) (scalar d.name) keeps.directed_once new);
      wired_once = subst (λ (ns : List grammar.Name). IsDistinct (names_of ns)) (sym (declared_same is_wire ds d wire)) keeps.wired_once;
      are_ports = λ name has. (let there = subst (λ (ns : List Name). Contains ns name) more has in
          elim (either_side name (names_of (declared_as is_direction ds)) (scalar d.name ∷ []) there) [
            | inl before ↦ keeps.are_ports name before
            | inr last ↦ elim (one_of name (scalar d.name) [] last) [
              | inl same ↦ subst (λ (x : Name). Contains s.listed x) same (contains_is (scalar d.name) s.listed free.2)
              | inr none ↦ nowhere name none
            ]
          ]);
      few_inputs = omega (arith, wider, few, keeps.inputs);
    })

wires_one : (listed : List grammar.Name) (s t : Lists) (ds : List Declared) (d : Declared) → is_wire d.role ≡ true → is_direction d.role ≡ false → is_input d.role ≡ false
    → Declares listed s ds → declare_wire d.range s d.name ≡ Ok t → Declares listed t (ds ++ d ∷ [])
unfolding declare_wire
wires_one listed s t ds d this no_direction no_input keeps e =
    let a = ok_both (unless {A = Unit {0}} (wire_fault s d.range d.name) d.name.line tt) _ t e in
    let fine = unless_ok (wire_fault s d.range d.name) d.name.line tt a.0 a.1 in
    let free = wired_fine (is_in (scalar d.name) s.wires) (is_other (known s.names d.name.name) d.range) fine.0 in
    let b = ok_both (know s.names d.name d.range) _ t a.2 in
    let more : names_of (declared_as is_wire (ds ++ d ∷ [])) ≡ names_of (declared_as is_wire ds) ++ scalar d.name ∷ [] =
    ap names_of (declared_more is_wire ds d this) ∙ named_push (declared_as is_wire ds) d.name in
    let new : ¬ Contains (names_of (declared_as is_wire ds)) (scalar d.name) =
    subst (λ (ns : List Name). ¬ Contains ns (scalar d.name)) keeps.wires (not_contained (scalar d.name) s.wires free.0) in
    let same_directions : declared_as is_direction (ds ++ d ∷ []) ≡ declared_as is_direction ds = declared_same is_direction ds d no_direction in
    let none : input_bits d.role d.range ≡ 0 = ap (λ (b : Bool). cond b (width_of d.range) 0) no_input in
    let wider : input_width (ds ++ d ∷ []) ≡ input_width ds + input_bits d.role d.range = width_push ds d in
    let same_width : input_width (ds ++ d ∷ []) ≡ input_width ds = omega (arith, wider, none) in
    let made : record { listed = s.listed; directions = s.directions; inputs = s.inputs; wires = s.wires ++ scalar d.name ∷ []; names = b.0 } ≡ t = cc in
    subst (λ (u : Lists). Declares listed u (ds ++ d ∷ [])) made (record {
      listed = keeps.listed;
      listed_once = keeps.listed_once;
      directions = keeps.directions ∙ sym (directed_same ds d no_direction);
      inputs = keeps.inputs ∙ sym same_width;
      wires = ap (λ (ns : List Name). ns ++ scalar d.name ∷ []) keeps.wires ∙ sym more;
      known = knows_declared s.names ds keeps.known d b.0 b.1;
      few_nets = few_known s.names b.0 d.name d.range b.1 keeps.few_nets;
      ranges = ranges_more s.names ds keeps.known d free.1 keeps.ranges;
      directed_once = subst (λ (ns : List grammar.Name). IsDistinct (names_of ns)) (sym same_directions) keeps.directed_once;
      wired_once = subst IsDistinct (sym more) (distinct_push (names_of (declared_as is_wire ds)) (scalar d.name) keeps.wired_once new);
      are_ports = subst (λ (ns : List grammar.Name). (name : Name) → Contains (names_of ns) name → Contains s.listed name) (sym same_directions) keeps.are_ports;
      few_inputs = subst (λ (n : ℕ). n ≤ 4096) (sym same_width) keeps.few_inputs;
    })

pub declares_one : (listed : List grammar.Name) (s t : Lists) (ds : List Declared) (d : Declared) → Declares listed s ds → declares s d ≡ Ok t → Declares listed t (ds ++ d ∷ [])
unfolding declare
declares_one listed s t ds d keeps e = elim (direction_or_wire d.role) [
  | inl this ↦ wires_one listed s t ds d this.0 this.1 this.2 keeps (sym (ap (λ (b : Bool). cond b (declare_wire d.range s d.name) (declare_direction d.role d.range s d.name)) this.0) ∙ e)
  | inr this ↦ directs_one listed s t ds d this.1 keeps (sym (ap (λ (b : Bool). cond b (declare_wire d.range s d.name) (declare_direction d.role d.range s d.name)) this.0) ∙ e)
]

-- ---- where it stops

module _ (m : grammar.Module) (listed : List grammar.Name) (before : List Declared) (d : Declared) (after : List Declared) (s : Lists)
    (splits : declarations m ≡ before ++ d ∷ after) (keeps : Declares listed s before) where
  declared_parts : (is : Role → Bool) → is d.role ≡ true → declared_names is m ≡ declared_as is before ++ d.name ∷ declared_as is after
  declared_parts is this = ap (declared_as is) splits ∙ declared_split is before d after this

  repeated_as : (is : Role → Bool) (line : ℕ) → is d.role ≡ true → d.name.line ≡ line → Contains (names_of (declared_as is before)) (scalar d.name) → RepeatedOn line (declared_names is m)
  repeated_as is line this there has = record {
    before = declared_as is before;
    name = d.name;
    after = declared_as is after;
    splits = declared_parts is this;
    there = there;
    repeats = has;
  }

  stands_there : Contains (declarations m) d
  stands_there = subst (λ (ds : List Declared). Contains ds d) (sym splits) (between before d after)

  kept_in : (text : List ℕ) → Contains (all_names before) (named text) → range_in m text ≡ range_by before text
  kept_in text has = ap (λ (ds : List Declared). range_by ds text) splits ∙ range_kept before (d ∷ after) text has

  ranged_on : (line : ℕ) → d.name.line ≡ line → is_other (known s.names d.name.name) d.range ≡ true → RangedOn line m
  ranged_on line there e =
      let other = differs (known s.names d.name.name) d.range e in
      let found = known_some s.names d.name.name other.0 other.1 in
      let same : other.0.range ≡ range_in m d.name.name =
      keeps.known.own other.0 found.0 ∙ ap (range_by before) found.1 ∙ sym (kept_in d.name.name (found_declared s.names before keeps.known d.name.name other.0 other.1)) in
      record { declared = d; stands = stands_there; there = there; other = λ is. other.2 (is ∙ sym same) }

  -- the names of the module, from this declaration on
  names_from : List Name
  names_from = all_names after ++ names_of (flat_map plain_name (terminals_in m))

  names_parts : names_in m ≡ fold with_name (different (all_names before ++ scalar d.name ∷ [])) names_from
  unfolding names_from
  names_parts =
      let plain = names_of (flat_map plain_name (terminals_in m)) in
      ap different (map-append scalar (map (λ (x : Declared). x.name) (declarations m)) (flat_map plain_name (terminals_in m)))
      ∙ ap (λ (ds : List Declared). different (all_names ds ++ plain)) splits
      ∙ ap (λ (ns : List Name). different (ns ++ plain)) (all_both before (d ∷ after) ∙ sym (append_assoc (all_names before) (scalar d.name ∷ []) (all_names after)))
      ∙ ap different (append_assoc (all_names before ++ scalar d.name ∷ []) (all_names after) plain)
      ∙ fold-append with_name [] (all_names before ++ scalar d.name ∷ []) (all_names after ++ plain)

  too_many_nets : known s.names d.name.name ≡ None → 1000000 < nets_known s.names + width_of d.range → 1000000 < net_count m
  too_many_nets new many =
      let is : d.range ≡ range_in m d.name.name = sym (range_new before d after (unknown_undeclared s.names before keeps.known d.name.name new)) ∙ ap (λ (ds : List Declared). range_by ds d.name.name) (sym splits) in
      let more =
      still_too_many s.names (all_names before) (range_by before) (range_in m) keeps.known d.name d.range names_from
      (λ k has. kept_in k.text (known_declared s.names before keeps.known k has)) new is many in
      subst (λ (ns : List Name). 1000000 < sum_by (width_by (range_in m)) ns) (sym names_parts) more

  know_breaks : (f : Fault) → know s.names d.name d.range ≡ Err f → IsNameFault f.kind f.line m
  know_breaks f e = let at = know_err s.names d.name d.range f e in breaks_as m f.line kind.TooMany f.kind at.is (inr (too_many_nets at.new at.many))

  too_many_inputs : nat_lt 4096 (s.inputs + input_bits d.role d.range) ≡ true → 4096 < input_count m
  too_many_inputs many =
      let more = ltb-true _ _ many in
      let here : input_width (before ++ d ∷ []) ≡ input_width before + input_bits d.role d.range = width_push before d in
      let all : input_width (before ++ d ∷ []) ≤ input_width ((before ++ d ∷ []) ++ after) = width_both (before ++ d ∷ []) after in
      let whole : input_width ((before ++ d ∷ []) ++ after) ≡ input_count m = ap input_width (append_assoc before (d ∷ []) after ∙ sym splits) in
      omega (arith, more, here, all, whole, keeps.inputs)

  pub direction_breaks : (f : Fault) → is_direction d.role ≡ true → (is_in (scalar d.name) s.listed ≡ false → ¬ Contains (names_of (ports m)) (scalar d.name))
      → declare_direction d.role d.range s d.name ≡ Err f → IsNameFault f.kind f.line m
  unfolding declare_direction
  direction_breaks f this no_port e = elim (err_either (unless {A = Unit {0}} (direction_fault s d.role d.range d.name) d.name.line tt) _ f e) [
    | inl here ↦ (let at = unless_err (direction_fault s d.role d.range d.name) d.name.line tt f here in
        elim (directed_refused (is_some (direction_of s.directions d.name)) (is_other (known s.names d.name.name) d.range) (is_in (scalar d.name) s.listed) (nat_lt 4096 (s.inputs + input_bits d.role d.range)) f.kind at.0) [
          | Twice twice is ↦ breaks_as m f.line kind.Redeclared f.kind is
              (inr (inl (repeated_as is_direction f.line this at.1 (directed_there (with_direction before) d.name (ap (λ (es : List Declared). is_some (direction_of es d.name)) (sym keeps.directions) ∙ twice)))))
          | Other other is ↦ breaks_as m f.line kind.Redeclared f.kind is (inr (inr (inr (ranged_on f.line at.1 other))))
          | NoPort none is ↦ breaks_as m f.line kind.PortUndeclared f.kind is
              (inl (record {
                name = d.name;
                stands = subst (λ (ns : List grammar.Name). Contains ns d.name) (sym (declared_parts is_direction this)) (between (declared_as is_direction before) d.name (declared_as is_direction after));
                there = at.1;
                missing = no_port none;
              }))
          | Many many is ↦ breaks_as m f.line kind.TooMany f.kind is (inl (too_many_inputs many))
        ])
    | inr past ↦ elim (err_either (know s.names d.name d.range) _ f past.2) [
      | inl here ↦ know_breaks f here
      | inr done ↦ absurd cc
    ]
  ]

  wire_breaks : (f : Fault) → is_wire d.role ≡ true → declare_wire d.range s d.name ≡ Err f → IsNameFault f.kind f.line m
  unfolding declare_wire
  wire_breaks f this e = elim (err_either (unless {A = Unit {0}} (wire_fault s d.range d.name) d.name.line tt) _ f e) [
    | inl here ↦ (let at = unless_err (wire_fault s d.range d.name) d.name.line tt f here in
        let refused = wired_refused (is_in (scalar d.name) s.wires) (is_other (known s.names d.name.name) d.range) f.kind at.0 in
        elim refused.0 [
          | inl twice ↦ breaks_as m f.line kind.Redeclared f.kind refused.1
              (inr (inr (inl (repeated_as is_wire f.line this at.1 (subst (λ (ns : List Name). Contains ns (scalar d.name)) keeps.wires (contains_is (scalar d.name) s.wires twice))))))
          | inr other ↦ breaks_as m f.line kind.Redeclared f.kind refused.1 (inr (inr (inr (ranged_on f.line at.1 other))))
        ])
    | inr past ↦ elim (err_either (know s.names d.name d.range) _ f past.2) [
      | inl here ↦ know_breaks f here
      | inr done ↦ absurd cc
    ]
  ]

  pub declared_breaks : (f : Fault) → s.listed ≡ names_of (ports m) → declares s d ≡ Err f → IsNameFault f.kind f.line m
  unfolding declare
  declared_breaks f are e = elim (direction_or_wire d.role) [
    | inl this ↦ wire_breaks f this.0 (sym (ap (λ (b : Bool). cond b (declare_wire d.range s d.name) (declare_direction d.role d.range s d.name)) this.0) ∙ e)
    | inr this ↦ direction_breaks f this.1
        (λ none. subst (λ (ns : List Name). ¬ Contains ns (scalar d.name)) are (not_contained (scalar d.name) s.listed none))
        (sym (ap (λ (b : Bool). cond b (declare_wire d.range s d.name) (declare_direction d.role d.range s d.name)) this.0) ∙ e)
  ]
