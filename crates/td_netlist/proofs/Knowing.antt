-- The names that are known, and how many nets they have.
use Rattle.std.proofs.Common.{◌≡◌, ℕ, ◌+◌, ◌<◌, ◌≤◌, Bool, true, false, cond, List, [], ◌∷◌, ◌++◌, map, fold, Option, None, Some, Ok, Err, refl, sym, ap, subst, ◌∙◌, arith, ◌⊎◌, inl, inr}
use Rattle.std.specs.Prelude.{is_some, nat_lt}
use Rattle.std.specs.List.{Contains, sum_by}
use Rattle.std.specs.Str.{bytes_eq}
use Rattle.std.specs.Cmp.Lexicographic.{same_text}
use Rattle.std.proofs.lemmas.Bool.{ltb-true, ltb-false}
use Rattle.std.proofs.lemmas.List.{map_push}
use Rattle.std.proofs.lemmas.List.Sums.{fold-append, sum_by-cons}
use Rattle.td_syntax.specs.Grammar as grammar
use Rattle.td_netlist.specs.declared.ranges.Range.{Range}
use Rattle.td_netlist.specs.declared.fault.FaultKind.{FaultKind}
use Rattle.td_netlist.specs.declared.fault.FaultKind.TheVariants as kind
use Rattle.td_netlist.specs.declared.fault.Fault.{Fault}
use Rattle.td_nets.specs.Netlist.{Name}
use Rattle.td_netlist.specs.Ranges.{width_of}
use Rattle.td_nets.specs.Names.{is_in, with_name}
use Rattle.td_netlist.specs.PlacedNets.{different}
use Rattle.td_netlist.specs.Module.{scalar}
use Rattle.td_netlist.specs.Checks.{Known, known, range_known, nets_known, with_range, know}
use Rattle.td_netlist.proofs.Members.{first, later, one_of, nowhere, in_front, behind, either_side, mapped, of_mapped}
use Rattle.td_netlist.proofs.Finding.{found_there, found_none}
use Rattle.td_netlist.proofs.Sets.{contains_is, is_contained, is_absent}
use Rattle.td_nets.proofs.SameNames.{text_same}
use Rattle.td_netlist.proofs.Steps.{unless_ok, unless_err}
use Rattle.td_netlist.proofs.KnownNames.{nets_more}

-- ---- different names

in_with : (seen : List Name) (name n : Name) (b : Bool) → Contains (cond b seen (seen ++ name ∷ [])) n → Contains seen n ⊎ (n ≡ name)
in_with seen name n true has = inl has
in_with seen name n false has = elim (either_side n seen (name ∷ []) has) [
  | inl before ↦ inl before
  | inr last ↦ elim (one_of n name [] last) [ inl same ↦ inr (sym same) | inr none ↦ nowhere n none ]
]

with_seen : (seen : List Name) (name n : Name) (b : Bool) → Contains seen n → Contains (cond b seen (seen ++ name ∷ [])) n
with_seen seen name n true has = has
with_seen seen name n false has = in_front n seen (name ∷ []) has

with_this : (seen : List Name) (name : Name) (b : Bool) → is_in name seen ≡ b → Contains (cond b seen (seen ++ name ∷ [])) name
with_this seen name true e = contains_is name seen e
with_this seen name false e = behind name seen (name ∷ []) (first name [])

pub of_fold : (seen names : List Name) (n : Name) → Contains (fold with_name seen names) n → Contains seen n ⊎ Contains names n
of_fold seen [] n has = inl has
of_fold seen (name ∷ names) n has = elim (of_fold (with_name seen name) names n has) [
  | inl before ↦ elim (in_with seen name n (is_in name seen) before) [
    | inl old ↦ inl old
    | inr same ↦ inr (subst (λ (x : Name). Contains (name ∷ names) x) (sym same) (first name names))
  ]
  | inr rest ↦ inr (later n name names rest)
]

pub seen_in_fold : (seen names : List Name) (n : Name) → Contains seen n → Contains (fold with_name seen names) n
seen_in_fold seen [] n has = has
seen_in_fold seen (name ∷ names) n has = seen_in_fold (with_name seen name) names n (with_seen seen name n (is_in name seen) has)

pub in_fold : (seen names : List Name) (n : Name) → Contains names n → Contains (fold with_name seen names) n
in_fold seen [] n has = nowhere n has
in_fold seen (name ∷ names) n has = elim (one_of n name names has) [
  | inl same ↦ seen_in_fold (with_name seen name) names n (subst (λ (x : Name). Contains (with_name seen name) x) same (with_this seen name (is_in name seen) refl))
  | inr rest ↦ in_fold (with_name seen name) names n rest
]

pub of_different : (names : List Name) (n : Name) → Contains (different names) n → Contains names n
of_different names n has = elim (of_fold [] names n has) [ inl none ↦ nowhere n none | inr there ↦ there ]

pub in_different : (names : List Name) (n : Name) → Contains names n → Contains (different names) n
in_different names n has = in_fold [] names n has

pub different_push : (names : List Name) (n : Name) → different (names ++ n ∷ []) ≡ with_name (different names) n
different_push names n = fold-append with_name [] names (n ∷ [])

-- a sum over names grows with them
module _ (f : Name → ℕ) where
  sum_push : (names : List Name) (n : Name) → sum_by f (names ++ n ∷ []) ≡ sum_by f names + f n
  sum_push [] n = omega (arith, sum_by-cons f n [])
  sum_push (x ∷ names) n = omega (arith, sum_by-cons f x names, sum_by-cons f x (names ++ n ∷ []), sum_push names n)

  sum_with : (seen : List Name) (n : Name) (b : Bool) → sum_by f seen ≤ sum_by f (cond b seen (seen ++ n ∷ []))
  sum_with seen n true = omega arith
  sum_with seen n false = omega (arith, sum_push seen n)

  pub sum_grows : (seen names : List Name) → sum_by f seen ≤ sum_by f (fold with_name seen names)
  sum_grows seen [] = omega arith
  sum_grows seen (n ∷ names) = omega (arith, sum_with seen n (is_in n seen), sum_grows (with_name seen n) names)

-- ---- names that are known

-- the name by which it is known
abbrev pub named : List ℕ → Name
named text = record { text = text; bit = None }

abbrev pub texts : List Known → List Name
texts ks = map (λ (k : Known). named k.text) ks

pub known_some : (ks : List Known) (text : List ℕ) (k : Known) → known ks text ≡ Some k → Contains ks k × (k.text ≡ text)
known_some ks text k e =
    let found = found_there (λ (j : Known). bytes_eq text j.text) ks k e in
    (found.0, sym (same_text text k.text (sym found.1)))

pub known_none : (ks : List Known) (text : List ℕ) → known ks text ≡ None → ¬ Contains (texts ks) (named text)
known_none ks text e has =
    let one = of_mapped (λ (k : Known). named k.text) (named text) ks has in
    let same : one.0.text ≡ text = ap (λ (n : Name). n.text) one.2 in
    found_none (λ (j : Known). bytes_eq text j.text) ks one.0 e one.1 (ap (λ (t : List ℕ). bytes_eq text t) same ∙ text_same text)

pub known_there : (ks : List Known) (text : List ℕ) (k : Known) → known ks text ≡ Some k → Contains (texts ks) (named text)
known_there ks text k e =
    let found = known_some ks text k e in
    subst (λ (t : List ℕ). Contains (texts ks) (named t)) found.1 (mapped (λ (j : Known). named j.text) k ks found.0)

-- These names are known, each with its range.
pub record AreKnown (ks : List Known) (names : List Name) (range : List ℕ → Option Range) : Type 0 where
  pub are : texts ks ≡ different names
  pub own : (k : Known) → Contains ks k → k.range ≡ range k.text

pub none_are_known : (range : List ℕ → Option Range) → AreKnown [] [] range
none_are_known range = record { are = refl; own = λ k has. nowhere k has }

pub range_is_known : (ks : List Known) (names : List Name) (range : List ℕ → Option Range) → AreKnown ks names range → ((text : List ℕ) → ¬ Contains names (named text) → range text ≡ None)
    → (text : List ℕ) → range_known (known ks text) ≡ range text
range_is_known ks names range keeps others text = by (known ks text) refl
  where
    by : (o : Option Known) → known ks text ≡ o → range_known o ≡ range text
    by None e = sym (others text (λ has. known_none ks text e (subst (λ (ns : List Name). Contains ns (named text)) (sym keeps.are) (in_different names (named text) has))))
    by (Some k) e = let found = known_some ks text k e in keeps.own k found.0 ∙ ap range found.1

-- what one name more makes of them
pub record KnowsMore (ks t : List Known) (n : grammar.Name) (range : Option Range) : Type 0 where
  pub new : known ks n.name ≡ None
  pub more : t ≡ ks ++ record { text = n.name; range = range } ∷ []
  pub few : nets_known t ≤ 1000000

fine_by : (b : Bool) → cond b (Some kind.TooMany) None ≡ None → b ≡ false
fine_by true e = absurd cc
fine_by false e = refl

refused_by : (b : Bool) (k : FaultKind) → cond b (Some kind.TooMany) None ≡ Some k → (b ≡ true) × (k ≡ kind.TooMany)
refused_by true k e = (refl, let same : kind.TooMany ≡ k = cc in sym same)
refused_by false k e = absurd cc

pub know_ok : (ks t : List Known) (n : grammar.Name) (range : Option Range) → know ks n range ≡ Ok t
    → (((k : Known) × (known ks n.name ≡ Some k) × (t ≡ ks)) ⊎ KnowsMore ks t n range)
unfolding know
know_ok ks t n range e = by (known ks n.name) refl e
  where
    by : (o : Option Known) → known ks n.name ≡ o → cond (is_some o) (Ok ks) (with_range ks n range) ≡ Ok t
        → (((k : Known) × (known ks n.name ≡ Some k) × (t ≡ ks)) ⊎ KnowsMore ks t n range)
    by (Some k) is e = let same : ks ≡ t = cc in inl (k, is, sym same)
    by None is e =
        let u = unless_ok _ n.line _ t e in
        let small = ltb-false _ _ (fine_by (nat_lt 1000000 (nets_known ks + width_of range)) u.0) in
        let more = nets_more ks (record { text = n.name; range = range }) in
        inr (record { new = is; more = sym u.1; few = subst (λ (js : List Known). nets_known js ≤ 1000000) u.1 (omega (arith, more, small)) })

pub record KnowsTooMany (ks : List Known) (n : grammar.Name) (range : Option Range) (f : Fault) : Type 0 where
  pub new : known ks n.name ≡ None
  pub is : f.kind ≡ kind.TooMany
  pub many : 1000000 < nets_known ks + width_of range

pub know_err : (ks : List Known) (n : grammar.Name) (range : Option Range) (f : Fault) → know ks n range ≡ Err f → KnowsTooMany ks n range f
unfolding know
know_err ks n range f e = by (known ks n.name) refl e
  where
    by : (o : Option Known) → known ks n.name ≡ o → cond (is_some o) (Ok ks) (with_range ks n range) ≡ Err f → KnowsTooMany ks n range f
    by (Some k) is e = absurd cc
    by None is e =
        let u = unless_err _ n.line _ f e in
        let r = refused_by (nat_lt 1000000 (nets_known ks + width_of range)) f.kind u.0 in
        record { new = is; is = r.1; many = ltb-true _ _ r.0 }

-- one name more
module _ (ks : List Known) (names : List Name) (range : List ℕ → Option Range) (keeps : AreKnown ks names range) (later_range : List ℕ → Option Range)
    (agrees : (k : Known) → Contains ks k → later_range k.text ≡ range k.text) (n : grammar.Name) where
  own_still : (k : Known) → Contains ks k → k.range ≡ later_range k.text
  own_still k has = keeps.own k has ∙ sym (agrees k has)

  is_there : (k : Known) → known ks n.name ≡ Some k → is_in (scalar n) (different names) ≡ true
  is_there k e = is_contained (scalar n) (different names) (subst (λ (ns : List Name). Contains ns (scalar n)) keeps.are (known_there ks n.name k e))

  not_there : known ks n.name ≡ None → is_in (scalar n) (different names) ≡ false
  not_there e = is_absent (scalar n) (different names) (subst (λ (ns : List Name). ¬ Contains ns (scalar n)) keeps.are (known_none ks n.name e))

  pub knows_same : (k : Known) → known ks n.name ≡ Some k → AreKnown ks (names ++ scalar n ∷ []) later_range
  knows_same k e = record {
    are = keeps.are ∙ sym (different_push names (scalar n) ∙ ap (λ (b : Bool). cond b (different names) (different names ++ scalar n ∷ [])) (is_there k e));
    own = own_still;
  }

  pub knows_new : (r : Option Range) → known ks n.name ≡ None → r ≡ later_range n.name → AreKnown (ks ++ record { text = n.name; range = r } ∷ []) (names ++ scalar n ∷ []) later_range
  knows_new r e is = record {
    are =
        map_push (λ (k : Known). named k.text) ks (record { text = n.name; range = r })
        ∙ ap (λ (ns : List Name). ns ++ scalar n ∷ []) keeps.are
        ∙ sym (different_push names (scalar n) ∙ ap (λ (b : Bool). cond b (different names) (different names ++ scalar n ∷ [])) (not_there e));
    own = λ k has. elim (either_side k ks (record { text = n.name; range = r } ∷ []) has) [
      | inl before ↦ own_still k before
      | inr last ↦ elim (one_of k (record { text = n.name; range = r }) [] last) [
        | inl same ↦ ap (λ (j : Known). j.range) (sym same) ∙ is ∙ ap (λ (j : Known). later_range j.text) same
        | inr none ↦ nowhere k none
      ]
    ];
  }

  pub knows_one : (t : List Known) (r : Option Range) → know ks n r ≡ Ok t → (known ks n.name ≡ None → r ≡ later_range n.name) → AreKnown t (names ++ scalar n ∷ []) later_range
  knows_one t r e new = elim (know_ok ks t n r e) [
    | inl old ↦ subst (λ (js : List Known). AreKnown js (names ++ scalar n ∷ []) later_range) (sym old.2) (knows_same old.0 old.1)
    | inr more ↦ subst (λ (js : List Known). AreKnown js (names ++ scalar n ∷ []) later_range) (sym more.more) (knows_new r more.new (new more.new))
  ]

pub few_known : (ks t : List Known) (n : grammar.Name) (r : Option Range) → know ks n r ≡ Ok t → nets_known ks ≤ 1000000 → nets_known t ≤ 1000000
few_known ks t n r e few = elim (know_ok ks t n r e) [
  | inl old ↦ subst (λ (js : List Known). nets_known js ≤ 1000000) (sym old.2) few
  | inr more ↦ more.few
]

-- ---- how many nets they have

abbrev pub width_by : (List ℕ → Option Range) → Name → ℕ
width_by range name = width_of (range name.text)

sum_own : (ks : List Known) (range : List ℕ → Option Range) → ((k : Known) → Contains ks k → k.range ≡ range k.text) → nets_known ks ≡ sum_by (width_by range) (texts ks)
sum_own [] range own = refl
sum_own (k ∷ ks) range own =
    let here : width_of k.range ≡ width_of (range k.text) = ap width_of (own k (first k ks)) in
    omega (arith, here, sum_by-cons (λ (j : Known). width_of j.range) k ks, sum_by-cons (width_by range) (named k.text) (texts ks), sum_own ks range (λ j has. own j (later j k ks has)))

pub nets_counted : (ks : List Known) (names : List Name) (range : List ℕ → Option Range) → AreKnown ks names range → nets_known ks ≡ sum_by (width_by range) (different names)
nets_counted ks names range keeps = sum_own ks range keeps.own ∙ ap (λ (ns : List Name). sum_by (width_by range) ns) keeps.are

-- a name too many is so in the whole list of names
pub still_too_many : (ks : List Known) (names : List Name) (range whole : List ℕ → Option Range) (keeps : AreKnown ks names range) (n : grammar.Name) (r : Option Range) (rest : List Name)
    → ((k : Known) → Contains ks k → whole k.text ≡ range k.text) → known ks n.name ≡ None → r ≡ whole n.name → 1000000 < nets_known ks + width_of r
    → 1000000 < sum_by (width_by whole) (fold with_name (different (names ++ scalar n ∷ [])) rest)
still_too_many ks names range whole keeps n r rest agrees new is many =
    let all = knows_new ks names range keeps whole agrees n r new is in
    let counted = nets_counted (ks ++ record { text = n.name; range = r } ∷ []) (names ++ scalar n ∷ []) whole all in
    let more = nets_more ks (record { text = n.name; range = r }) in
    let grows = sum_grows (width_by whole) (different (names ++ scalar n ∷ [])) rest in
    omega (arith, many, counted, more, grows)
