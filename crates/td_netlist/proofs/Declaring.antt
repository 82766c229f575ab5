-- What the checks of declarations say: of the port list, of each declaration, of the ports by
-- direction.
use Rattle.std.proofs.Common.{◌≡◌, ℕ, Bool, true, false, cond, List, [], ◌∷◌, ◌++◌, map, filter, Option, None, Some, Ok, Err, refl, sym, ap, subst, ◌∙◌, inl, inr}
use Rattle.std.specs.Prelude.{is_some, find}
use Rattle.std.specs.List.{Contains, sum_by}
use Rattle.std.specs.Str.{bytes_eq}
use Rattle.std.specs.Cmp.Lexicographic.{same_text}
use Rattle.std.proofs.lemmas.List.{append-nil, map_push, map-append}
use Rattle.std.proofs.lemmas.List.Elements.{filter-append}
use Rattle.td_syntax.specs.declared.syntax.Role.{Role}
use Rattle.td_syntax.specs.Grammar as grammar
use Rattle.td_netlist.specs.declared.fault.FaultKind.{FaultKind}
use Rattle.td_netlist.specs.declared.fault.FaultKind.TheVariants as kind
use Rattle.td_netlist.specs.declared.fault.Fault.{Fault}
use Rattle.td_nets.specs.Netlist.{Name}
use Rattle.td_nets.specs.WellFormed.{IsDistinct}
use Rattle.td_nets.specs.Names.{is_in}
use Rattle.td_netlist.specs.declared.ranges.Range.{Range}
use Rattle.td_netlist.specs.Ranges.{width_of}
use Rattle.td_netlist.specs.Module.{scalar, names_of, Declared, is_input, is_direction, is_of}
use Rattle.td_netlist.specs.NameFaults.{RepeatedOn}
use Rattle.td_netlist.specs.Checks.{list_port, direction_of}
use Rattle.td_netlist.proofs.Members.{first, later, one_of, nowhere, mapped, of_mapped}
use Rattle.td_netlist.proofs.Finding.{find_front, find_behind, found_there, found_none}
use Rattle.td_netlist.proofs.Knowing.{named}
use Rattle.td_netlist.proofs.Distinct.{distinct_push}
use Rattle.td_netlist.proofs.Sets.{contains_is, not_contained}
use Rattle.td_nets.proofs.SameNames.{text_same}
use Rattle.td_netlist.proofs.Steps.{unless_ok, unless_err}

-- ---- nets

pub named_push : (ns : List grammar.Name) (n : grammar.Name) → names_of (ns ++ n ∷ []) ≡ names_of ns ++ scalar n ∷ []
named_push ns n = map_push scalar ns n

-- ---- the port list

listed_fault : (b : Bool) → cond b (Some kind.Redeclared) None ≡ None → b ≡ false
listed_fault true e = absurd cc
listed_fault false e = refl

listed_twice : (b : Bool) (k : FaultKind) → cond b (Some kind.Redeclared) None ≡ Some k → (b ≡ true) × (k ≡ kind.Redeclared)
listed_twice true k e = (refl, let same : kind.Redeclared ≡ k = cc in sym same)
listed_twice false k e = absurd cc

-- what listing one port more makes of the list
pub record ListsMore (seen t : List Name) (done : List grammar.Name) (n : grammar.Name) : Type 0 where
  pub is : t ≡ seen ++ scalar n ∷ []
  pub are : t ≡ names_of (done ++ n ∷ [])
  pub once : IsDistinct (names_of (done ++ n ∷ []))

pub lists_one : (s t : List Name) (done : List grammar.Name) (n : grammar.Name) → s ≡ names_of done → IsDistinct (names_of done) → list_port s n ≡ Ok t → ListsMore s t done n
unfolding list_port
lists_one s t done n are once e =
    let u = unless_ok _ n.line _ t e in
    let new : is_in (scalar n) s ≡ false = listed_fault _ u.0 in
    let absent : ¬ Contains (names_of done) (scalar n) = subst (λ (names : List Name). ¬ Contains names (scalar n)) are (not_contained (scalar n) s new) in
    record {
      is = sym u.1;
      are = sym u.1 ∙ ap (λ (names : List Name). names ++ scalar n ∷ []) are ∙ sym (named_push done n);
      once = subst IsDistinct (sym (named_push done n)) (distinct_push (names_of done) (scalar n) once absent);
    }

pub listed_again : (s : List Name) (before : List grammar.Name) (n : grammar.Name) (after ports : List grammar.Name) (f : Fault) → s ≡ names_of before → ports ≡ before ++ n ∷ after
    → list_port s n ≡ Err f → (f.kind ≡ kind.Redeclared) × RepeatedOn f.line ports
unfolding list_port
listed_again s before n after ports f are splits e =
    let u = unless_err _ n.line _ f e in
    let h = listed_twice _ f.kind u.0 in (
      h.1,
      record {
        before = before;
        name = n;
        after = after;
        splits = splits;
        there = u.1;
        repeats = subst (λ (names : List Name). Contains names (scalar n)) are (contains_is (scalar n) s h.0);
      },
    )

-- ---- names that are declared as such

abbrev pub declared_as : (Role → Bool) → List Declared → List grammar.Name
declared_as is ds = map (λ (d : Declared). d.name) (filter (λ (d : Declared). is d.role) ds)

module _ (is : Role → Bool) where
  declared_both : (ds es : List Declared) → declared_as is (ds ++ es) ≡ declared_as is ds ++ declared_as is es
  declared_both ds es =
      ap (λ (xs : List Declared). map (λ (x : Declared). x.name) xs) (filter-append (λ (x : Declared). is x.role) ds es)
      ∙ map-append (λ (x : Declared). x.name) (filter (λ (x : Declared). is x.role) ds) (filter (λ (x : Declared). is x.role) es)

  declared_head : (d : Declared) (es : List Declared) → is d.role ≡ true → declared_as is (d ∷ es) ≡ d.name ∷ declared_as is es
  declared_head d es this = rw this refl

  declared_skip : (d : Declared) (es : List Declared) → is d.role ≡ false → declared_as is (d ∷ es) ≡ declared_as is es
  declared_skip d es this = rw this refl

  pub declared_more : (ds : List Declared) (d : Declared) → is d.role ≡ true → declared_as is (ds ++ d ∷ []) ≡ declared_as is ds ++ d.name ∷ []
  declared_more ds d this = declared_both ds (d ∷ []) ∙ ap (λ (ns : List grammar.Name). declared_as is ds ++ ns) (declared_head d [] this)

  pub declared_same : (ds : List Declared) (d : Declared) → is d.role ≡ false → declared_as is (ds ++ d ∷ []) ≡ declared_as is ds
  declared_same ds d this = declared_both ds (d ∷ []) ∙ ap (λ (ns : List grammar.Name). declared_as is ds ++ ns) (declared_skip d [] this) ∙ append-nil (declared_as is ds)

  pub declared_split : (before : List Declared) (d : Declared) (after : List Declared) → is d.role ≡ true
      → declared_as is (before ++ d ∷ after) ≡ declared_as is before ++ d.name ∷ declared_as is after
  declared_split before d after this = declared_both before (d ∷ after) ∙ ap (λ (ns : List grammar.Name). declared_as is before ++ ns) (declared_head d after this)

abbrev pub with_direction : List Declared → List Declared
with_direction ds = filter (λ (d : Declared). is_direction d.role) ds

pub directed_more : (ds : List Declared) (d : Declared) → is_direction d.role ≡ true → with_direction (ds ++ d ∷ []) ≡ with_direction ds ++ d ∷ []
directed_more ds d this = filter-append (λ (x : Declared). is_direction x.role) ds (d ∷ []) ∙ ap (λ (es : List Declared). with_direction ds ++ es) (rw this refl)

pub directed_same : (ds : List Declared) (d : Declared) → is_direction d.role ≡ false → with_direction (ds ++ d ∷ []) ≡ with_direction ds
directed_same ds d this = filter-append (λ (x : Declared). is_direction x.role) ds (d ∷ []) ∙ ap (λ (es : List Declared). with_direction ds ++ es) (rw this refl) ∙ append-nil (with_direction ds)

abbrev pub all_names : List Declared → List Name
all_names ds = names_of (map (λ (d : Declared). d.name) ds)

pub all_push : (ds : List Declared) (d : Declared) → all_names (ds ++ d ∷ []) ≡ all_names ds ++ scalar d.name ∷ []
all_push ds d = ap names_of (map_push (λ (x : Declared). x.name) ds d) ∙ named_push (map (λ (x : Declared). x.name) ds) d.name

pub all_both : (ds es : List Declared) → all_names (ds ++ es) ≡ all_names ds ++ all_names es
all_both ds es = ap names_of (map-append (λ (x : Declared). x.name) ds es) ∙ map-append scalar (map (λ (x : Declared). x.name) ds) (map (λ (x : Declared). x.name) es)

-- how many input bits they declare
abbrev pub input_width : List Declared → ℕ
input_width ds = sum_by (λ (d : Declared). width_of d.range) (filter (λ (d : Declared). is_input d.role) ds)

-- ---- the range of a name

abbrev range_found : Option Declared → Option Range
range_found None = None
range_found (Some d) = d.range

abbrev pub range_by : List Declared → List ℕ → Option Range
range_by ds text = range_found (find (is_of text) ds)

of_text : (ds : List Declared) (d : Declared) (text : List ℕ) → Contains ds d → is_of text d ≡ true → Contains (all_names ds) (named text)
of_text ds d text has is =
    let same : text ≡ d.name.name = same_text text d.name.name (sym is) in
    subst (λ (t : List ℕ). Contains (all_names ds) (named t)) (sym same) (mapped scalar d.name (map (λ (x : Declared). x.name) ds) (mapped (λ (x : Declared). x.name) d ds has))

declared_found : (ds : List Declared) (text : List ℕ) → Contains (all_names ds) (named text) → (d : Declared) × (find (is_of text) ds ≡ Some d)
declared_found ds text has = by (find (is_of text) ds) refl
  where
    by : (o : Option Declared) → find (is_of text) ds ≡ o → (d : Declared) × (find (is_of text) ds ≡ Some d)
    by (Some d) e = (d, e)
    by None e =
        let placed = of_mapped scalar (named text) (map (λ (x : Declared). x.name) ds) has in
        let one = of_mapped (λ (x : Declared). x.name) placed.0 ds placed.1 in
        let same : one.0.name.name ≡ text = ap (λ (n : grammar.Name). n.name) one.2 ∙ ap (λ (n : Name). n.text) placed.2 in
        absurd (found_none (is_of text) ds one.0 e one.1 (ap (λ (t : List ℕ). bytes_eq text t) same ∙ text_same text))

undeclared : (ds : List Declared) (text : List ℕ) → ¬ Contains (all_names ds) (named text) → find (is_of text) ds ≡ None
undeclared ds text missing = by (find (is_of text) ds) refl
  where
    by : (o : Option Declared) → find (is_of text) ds ≡ o → find (is_of text) ds ≡ None
    by None e = e
    by (Some d) e = let found = found_there (is_of text) ds d e in absurd (missing (of_text ds d text found.0 found.1))

-- the first declaration decides
pub range_kept : (ds es : List Declared) (text : List ℕ) → Contains (all_names ds) (named text) → range_by (ds ++ es) text ≡ range_by ds text
range_kept ds es text has =
    let found = declared_found ds text has in
    ap range_found (find_front (is_of text) ds es found.0 found.1) ∙ sym (ap range_found found.1)

pub range_new : (ds : List Declared) (d : Declared) (es : List Declared) → ¬ Contains (all_names ds) (scalar d.name) → range_by (ds ++ d ∷ es) d.name.name ≡ d.range
range_new ds d es missing =
    ap range_found (find_behind (is_of d.name.name) ds (d ∷ es) (undeclared ds d.name.name missing))
    ∙ ap (λ (b : Bool). range_found (cond b (Some d) (find (is_of d.name.name) es))) (text_same d.name.name)

pub range_none : (ds : List Declared) (text : List ℕ) → ¬ Contains (all_names ds) (named text) → range_by ds text ≡ None
range_none ds text missing = ap range_found (undeclared ds text missing)

-- ---- the direction of a name

pub undirected : (ds : List Declared) (n : grammar.Name) → is_some (direction_of ds n) ≡ false → ¬ Contains (all_names ds) (scalar n)
undirected [] n e has = nowhere (scalar n) has
undirected (d ∷ ds) n e has = by (bytes_eq n.name d.name.name) refl (undirected ds n) e
  where
    by : (b : Bool) → bytes_eq n.name d.name.name ≡ b → (is_some (direction_of ds n) ≡ false → ¬ Contains (all_names ds) (scalar n))
        → is_some (cond b (Some d) (direction_of ds n)) ≡ false → ⊥
    by true is rest e = cc
    by false is rest e = elim (one_of (scalar n) (scalar d.name) (all_names ds) has) [
      | inl same ↦ (let texts : d.name.name ≡ n.name = ap (λ (name : Name). name.text) same in
          let is_too : bytes_eq n.name d.name.name ≡ true = ap (λ (t : List ℕ). bytes_eq n.name t) texts ∙ text_same n.name in cc)
      | inr more ↦ rest e more
    ]

pub directed : (ds : List Declared) (n : grammar.Name) (d : Declared) → direction_of ds n ≡ Some d → Contains ds d × (scalar d.name ≡ scalar n)
directed [] n d e = absurd cc
directed (x ∷ ds) n d e = by (bytes_eq n.name x.name.name) refl (directed ds n d) e
  where
    by : (b : Bool) → bytes_eq n.name x.name.name ≡ b → (direction_of ds n ≡ Some d → Contains ds d × (scalar d.name ≡ scalar n))
        → cond b (Some x) (direction_of ds n) ≡ Some d → Contains (x ∷ ds) d × (scalar d.name ≡ scalar n)
    by true is rest e =
        let same : x ≡ d = cc in
        let texts : n.name ≡ x.name.name = same_text n.name x.name.name (sym is) in
        (subst (λ (y : Declared). Contains (x ∷ ds) y) same (first x ds), ap (λ (y : Declared). scalar y.name) (sym same) ∙ ap (λ (t : List ℕ). scalar (record { name = t; line = n.line })) (sym texts))
    by false is rest e = let found = rest e in (later d x ds found.0, found.1)

pub directed_there : (ds : List Declared) (n : grammar.Name) → is_some (direction_of ds n) ≡ true → Contains (all_names ds) (scalar n)
directed_there ds n e = by (direction_of ds n) refl e
  where
    by : (o : Option Declared) → direction_of ds n ≡ o → is_some o ≡ true → Contains (all_names ds) (scalar n)
    by None is e = absurd cc
    by (Some d) is e =
        let found = directed ds n d is in
        subst (λ (name : Name). Contains (all_names ds) name) found.1 (mapped scalar d.name (map (λ (x : Declared). x.name) ds) (mapped (λ (x : Declared). x.name) d ds found.0))
