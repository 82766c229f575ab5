-- Nets by their printed names.
use Rattle.std.proofs.Common.{◌≡◌, ◌≢◌, ◌∙◌, ℕ, zero, suc, ◌+◌, ◌-◌, ◌<◌, ◌≤◌, Bool, true, false, List, [], ◌∷◌, ◌++◌, length, map, replicate, arith, refl, sym, ap, subst, inl, inr, length-append}
use Rattle.std.specs.Prelude.{slice_get, slice_set, slice_index_or, is_some, ◌||◌, Option, Some, None, if◌then◌else◌}
use Rattle.std.specs.List.{Contains, list_any, position_from}
use Rattle.std.specs.Borrow.{Bor}
use Rattle.std.specs.Str.{bytes_eq}
use Rattle.std.specs.Cmp.Lexicographic.{same_text}
use Rattle.std.proofs.lemmas.Bool.{cases_Bool, cases_lt, lt-ltb, le-ltb}
use Rattle.std.proofs.lemmas.List.{length-map, map-append, length-set, length-replicate, get_or-set_same, get_or-set_other}
use Rattle.std.proofs.lemmas.List.Elements.{Contains-push}
use Rattle.td_gates.proofs.Places.{none-some, some-same, slice_get-some, slice_get-none, Contains-slice_get, slice_get-Contains, slice_get-get, get-slice_get}
use Rattle.td_nets.specs.Netlist.{Name, Net, Low, High, Named, Gate, Netlist}
use Rattle.td_nets.specs.Printed.{printed}
use Rattle.td_nets.proofs.SameNames.{text_same}
use Rattle.td_circuit.specs.Numbering.{Numbered, nets, first_output, IsNumbering}
use Rattle.td_circuit.proofs.Sorting.{named_same}
use Rattle.td_spans.specs.Lookups.{net_named}
use Rattle.td_refutation.specs.Asking.{net_at}
use Rattle.td_refutation.proofs.Asking.{net_is_at}
use Rattle.td_question.specs.Keeping.{NoneBefore, count_nets}
use Rattle.td_question.specs.Found.{place_in, number_at, number_in, IsPrinted, or_number, IsNoted, IsFound, AreFound, IsFoundBefore, AreFoundBefore}

-- ---- places of names

pub from_map : {A : Type 0} (f : A → List ℕ) (name : List ℕ) (i : ℕ) (keys : List A)
    → position_from (bytes_eq name) i (map f keys) ≡ position_from (λ (k : A). bytes_eq name (f k)) i keys
from_map f name i [] = refl
from_map f name i (k ∷ keys) = ap (λ (r : Option ℕ). if bytes_eq name (f k) then Some i else r) (from_map f name (i + 1) keys)

found_at : (names : List (List ℕ)) (name : List ℕ) (i p : ℕ) → position_from (bytes_eq name) i names ≡ Some p
    → (k : ℕ) × (p ≡ i + k) × (slice_get names k ≡ Some name)
found_at [] name i p is = absurd (none-some p is)
found_at (n ∷ names) name i p is = found_if (bytes_eq name n) refl is (λ here. found_at names name (i + 1) p here)
  where
    found_if : (b : Bool) → bytes_eq name n ≡ b → (if b then Some i else position_from (bytes_eq name) (i + 1) names) ≡ Some p
        → (position_from (bytes_eq name) (i + 1) names ≡ Some p → (k : ℕ) × (p ≡ (i + 1) + k) × (slice_get names k ≡ Some name))
        → (k : ℕ) × (p ≡ i + k) × (slice_get (n ∷ names) k ≡ Some name)
    found_if true test here behind =
        (zero, omega (arith, some-same i p here), ap (λ (t : List ℕ). Some t) (sym (same_text name n (sym test))))
    found_if false test here behind =
        let rest = behind here in
        (suc rest.0, omega (arith, rest.1), rest.2)

there_at : (names : List (List ℕ)) (name : List ℕ) (i k : ℕ) → slice_get names k ≡ Some name
    → (p : ℕ) × (position_from (bytes_eq name) i names ≡ Some p)
there_at [] name i k at = absurd (none-some name at)
there_at (n ∷ names) name i zero at =
    (i, rw (subst (λ (t : List ℕ). bytes_eq name t ≡ true) (sym (some-same n name at)) (text_same name)) refl)
there_at (n ∷ names) name i (suc k) at =
    let rest = there_at names name (i + 1) k at in
    there_if (bytes_eq name n) rest
  where
    there_if : (b : Bool) → ((p : ℕ) × (position_from (bytes_eq name) (i + 1) names ≡ Some p))
        → (p : ℕ) × ((if b then Some i else position_from (bytes_eq name) (i + 1) names) ≡ Some p)
    there_if true rest = (i, refl)
    there_if false rest = rest

place_is : (names : List (List ℕ)) (name : List ℕ) (p : ℕ) → place_in names name ≡ Some p → slice_get names p ≡ Some name
place_is names name p is =
    let it = found_at names name 0 p is in
    subst (λ (k : ℕ). slice_get names k ≡ Some name) (omega (arith, it.1)) it.2

place_there : (names : List (List ℕ)) (name : List ℕ) → Contains names name → (p : ℕ) × (place_in names name ≡ Some p)
place_there names name has =
    let at = Contains-slice_get names name has in
    there_at names name 0 at.0 at.1

pub place_within : (names : List (List ℕ)) (name : List ℕ) (p : ℕ) → place_in names name ≡ Some p → p < length names
place_within names name p is = slice_get-some names p name (place_is names name p is)

-- ---- what stands at a place

here_is : (numbers : List (Option ℕ)) (p : ℕ) (x : Option ℕ) → p < length numbers → x ≡ slice_index_or numbers p x → slice_index_or numbers p None ≡ x
here_is numbers p x low at = slice_get-get numbers p x None (get-slice_get numbers p x x low (sym at))

pub none_here : (numbers : List (Option ℕ)) (p : ℕ) (x : Option ℕ) → p < length numbers → x ≡ slice_index_or numbers p x → is_some x ≡ false
    → slice_index_or numbers p None ≡ None
none_here numbers p None low at none = here_is numbers p None low at
none_here numbers p (Some n) low at none = absurd (let wrong : true ≡ false = none in cc)

pub some_here : (numbers : List (Option ℕ)) (p : ℕ) (x : Option ℕ) → p < length numbers → x ≡ slice_index_or numbers p x → is_some x ≡ true
    → (n : ℕ) × (slice_index_or numbers p None ≡ Some n)
some_here numbers p None low at some = absurd (let wrong : false ≡ true = some in cc)
some_here numbers p (Some n) low at some = (n, here_is numbers p (Some n) low at)

-- ---- a name that is added

any_has : (keys : List (Bor (List ℕ))) (name : List ℕ) → list_any (λ k. bytes_eq name k.now) keys ≡ true → Contains (map (λ k. k.now) keys) name
any_has [] name any = absurd (let wrong : false ≡ true = any in cc)
any_has (k ∷ keys) name any = any_if (bytes_eq name k.now) refl any (λ rest. any_has keys name rest)
  where
    any_if : (b : Bool) → bytes_eq name k.now ≡ b → (b || list_any (λ k. bytes_eq name k.now) keys) ≡ true
        → (list_any (λ k. bytes_eq name k.now) keys ≡ true → Contains (map (λ k. k.now) keys) name) → Contains (map (λ k. k.now) (k ∷ keys)) name
    any_if true test any behind =
        slice_get-Contains (map (λ k. k.now) (k ∷ keys)) 0 name (ap (λ (t : List ℕ). Some t) (sym (same_text name k.now (sym test))))
    any_if false test any behind =
        let at = Contains-slice_get (map (λ k. k.now) keys) name (behind any) in
        slice_get-Contains (map (λ k. k.now) (k ∷ keys)) (suc at.0) name at.1

-- a name is among the keys after it is inserted
pub inserted : (keys : List (Bor (List ℕ))) (name : Bor (List ℕ))
    → Contains (map (λ k. k.now) (if list_any (λ k. bytes_eq name.now k.now) keys then keys else (keys ++ name ∷ []))) name.now
inserted keys name = inserted_if (list_any (λ k. bytes_eq name.now k.now) keys) refl
  where
    inserted_if : (b : Bool) → list_any (λ k. bytes_eq name.now k.now) keys ≡ b
        → Contains (map (λ k. k.now) (if b then keys else (keys ++ name ∷ []))) name.now
    inserted_if true any = any_has keys name.now any
    inserted_if false none =
        subst (λ (names : List (List ℕ)). Contains names name.now) (sym (map-append (λ k. k.now) keys (name ∷ [])))
        (Contains-push (map (λ k. k.now) keys) name.now)

-- ---- the numbers that are noted

pub noted_none : (names : List (List ℕ)) (text : List ℕ) (number : ℕ) (numbers : List (Option ℕ)) → place_in names text ≡ None
    → IsNoted names text number numbers numbers
noted_none names text number numbers none = record {
  count = refl;
  here = λ has. (let there = place_there names text has in absurd (none-some there.0 (sym none ∙ there.1)));
  others = λ name other. refl;
}

module _ (names : List (List ℕ)) (text : List ℕ) (number p : ℕ) (is : place_in names text ≡ Some p) where
  pub noted_earlier : (numbers : List (Option ℕ)) (earlier : ℕ) → slice_index_or numbers p None ≡ Some earlier
      → IsNoted names text number numbers numbers
  noted_earlier numbers earlier at = record {
    count = refl;
    here = λ has. (
        let known : number_in names numbers text ≡ Some earlier = ap (number_at numbers) is ∙ at in
        known ∙ sym (ap (λ (o : Option ℕ). or_number o number) known));
    others = λ name other. refl;
  }

  pub noted_new : (old new : List (Option ℕ)) → length old ≡ length names → slice_index_or old p None ≡ None → new ≡ slice_set old p (Some number)
      → IsNoted names text number old new
  noted_new old new long none set = record {
    count = ap length set ∙ length-set old p (Some number);
    here = λ has.
        ap (number_at new) is ∙ ap (λ (l : List (Option ℕ)). slice_index_or l p None) set
        ∙ get_or-set_same old p (Some number) None (omega (arith, long, slice_get-some names p text (place_is names text p is)))
        ∙ sym (ap (λ (o : Option ℕ). or_number o number) (ap (number_at old) is ∙ none));
    others = λ name other. other_at name other (place_in names name) refl;
  }
    where
      other_at : (name : List ℕ) → name ≢ text → (place : Option ℕ) → place_in names name ≡ place → number_at new place ≡ number_at old place
      other_at name other None at = refl
      other_at name other (Some q) at =
          ap (λ (l : List (Option ℕ)). slice_index_or l q None) set
          ∙ get_or-set_other old p q (Some number) None
          (λ same. other (some-same name text (sym (place_is names name q at)
          ∙ subst (λ (k : ℕ). slice_get names k ≡ Some text) (sym same) (place_is names text p is))))

-- ---- what is found

module _ (netlist : Netlist) (count : ℕ) (text : List ℕ) (is : IsPrinted netlist count text) where
  none_more : (name : List ℕ) → name ≢ text → NoneBefore netlist name count → NoneBefore netlist name (count + 1)
  none_more name other none number net low at same = elim (cases_lt number count) [
    | inl less ↦ none number net less at same
    | inr high ↦
        (let here : number ≡ count = omega (arith, low, high) in
        let one : is.0 ≡ net =
        named_same is.0 net (some-same (Named is.0) (Named net) (sym is.1 ∙ subst (λ (n : ℕ). net_at netlist n ≡ Some (Named net)) here at)) in
        other (sym same ∙ ap printed (sym one) ∙ is.2))
  ]

  pub found_more : (names : List (List ℕ)) (old new : List (Option ℕ)) → AreFoundBefore netlist count names old → IsNoted names text count old new
      → AreFoundBefore netlist (count + 1) names new
  found_more names old new are noted = record {
    length_is = noted.count ∙ are.length_is;
    each = λ name has. elim (cases_Bool (bytes_eq name text)) [
      | inl test ↦
          (let same : name ≡ text = same_text name text (sym test) in
          subst (λ (t : List ℕ). IsFoundBefore netlist (count + 1) t (number_in names new t)) (sym same)
          (subst (IsFoundBefore netlist (count + 1) text) (sym (noted.here (subst (Contains names) same has)))
          (here_more (number_in names old text) (are.each text (subst (Contains names) same has)))))
      | inr test ↦
          (let other : name ≢ text = λ same. (let wrong : false ≡ true = sym test ∙ subst (λ (t : List ℕ). bytes_eq name t ≡ true) same (text_same name) in cc) in
          subst (IsFoundBefore netlist (count + 1) name) (sym (noted.others name other))
          (other_more name other (number_in names old name) (are.each name has)))
    ];
  }
    where
      here_more : (old : Option ℕ) → IsFoundBefore netlist count text old → IsFoundBefore netlist (count + 1) text (or_number old count)
      here_more None none = record { net = is.0; stands = is.1; named = is.2; first = none }
      here_more (Some earlier) first = first

      other_more : (name : List ℕ) → name ≢ text → (old : Option ℕ) → IsFoundBefore netlist count name old → IsFoundBefore netlist (count + 1) name old
      other_more name other None none = none_more name other none
      other_more name other (Some earlier) first = first

no_constant : (netlist : Netlist) (name : List ℕ) → NoneBefore netlist name 2
no_constant netlist name zero net low at same = absurd (let wrong : Low ≡ Named net = some-same Low (Named net) at in cc)
no_constant netlist name (suc zero) net low at same = absurd (let wrong : High ≡ Named net = some-same High (Named net) at in cc)
no_constant netlist name (suc (suc i)) net low at same = absurd (omega (arith, low))

none_replicate : (n p : ℕ) (x : Option ℕ) → slice_index_or (replicate n x) p x ≡ x
none_replicate zero p x = refl
none_replicate (suc n) zero x = refl
none_replicate (suc n) (suc p) x = none_replicate n p x

pub none_found : (netlist : Netlist) (names : List (List ℕ)) (numbers : List (Option ℕ)) → numbers ≡ replicate (length names) None
    → AreFoundBefore netlist 2 names numbers
none_found netlist names numbers is = record {
  length_is = ap length is ∙ length-replicate (length names) None;
  each = λ name has. subst (λ (o : Option ℕ). IsFoundBefore netlist 2 name o) (sym (none_at (place_in names name))) (no_constant netlist name);
}
  where
    none_at : (place : Option ℕ) → number_at numbers place ≡ None
    none_at None = refl
    none_at (Some p) = ap (λ (l : List (Option ℕ)). slice_index_or l p None) is ∙ none_replicate (length names) p None

pub found_of_none : (netlist : Netlist) (names : List (List ℕ)) (numbers : List (Option ℕ)) → length names ≡ 0 → AreFound netlist names numbers
found_of_none netlist names numbers none name has = absurd (omega (arith, none, has.1))

-- the numbers of nets are less than their count
pub net_low : (netlist : Netlist) (number : ℕ) (net : Net) → net_at netlist number ≡ Some net → number < count_nets netlist
net_low netlist number net at =
    let outputs : List Name = map (λ (gate : Gate). gate.output) netlist.gates in
    omega (
      arith,
      slice_get-some (Low ∷ High ∷ map (λ (n : Name). Named n) (netlist.inputs ++ outputs)) number net at,
      length-map (netlist.inputs ++ outputs) (λ (n : Name). Named n),
      length-append netlist.inputs outputs,
      length-map netlist.gates (λ (gate : Gate). gate.output),
    )

pub all_found : (netlist : Netlist) (count : ℕ) (names : List (List ℕ)) (numbers : List (Option ℕ)) → count_nets netlist ≤ count
    → AreFoundBefore netlist count names numbers → AreFound netlist names numbers
all_found netlist count names numbers high are name has = all_in (number_in names numbers name) (are.each name has)
  where
    all_in : (number : Option ℕ) → IsFoundBefore netlist count name number → IsFound netlist name number
    all_in None none = λ number net at. none number net (omega (arith, high, net_low netlist number (Named net) at)) at
    all_in (Some number) first = first

-- ---- the net that is printed

named_is : (names : List Name) (i : ℕ) (net : Net) → slice_get (map (λ (n : Name). Named n) names) i ≡ Some net → (name : Name) × (Named name ≡ net)
named_is [] i net at = absurd (none-some net at)
named_is (n ∷ names) zero net at = (n, some-same (Named n) net at)
named_is (n ∷ names) (suc i) net at = named_is names i net at

is_named : (netlist : Netlist) (number : ℕ) (net : Net) → 2 ≤ number → net_at netlist number ≡ Some net → (name : Name) × (Named name ≡ net)
is_named netlist zero net some at = absurd (omega (arith, some))
is_named netlist (suc zero) net some at = absurd (omega (arith, some))
is_named netlist (suc (suc i)) net some at = named_is (netlist.inputs ++ map (λ (gate : Gate). gate.output) netlist.gates) i net at

module _ (circuit : Numbered) (numbering : IsNumbering circuit) (number : ℕ) where
  pub net_high : (n : ℕ) → 2 ≤ number → net_named circuit number ≡ Some n → 1 < n
  net_high n some is =
      let it = net_is_at circuit numbering number n is in
      let name = is_named circuit.netlist number it.net some it.there in
      no_low n (subst (λ (net : Net). slice_get (nets circuit) n ≡ Some net) (sym name.1) it.here)
    where
      no_low : (n : ℕ) {name : Name} → slice_get (nets circuit) n ≡ Some (Named name) → 1 < n
      no_low zero {name} at = absurd (let wrong : Low ≡ Named name = some-same Low (Named name) at in cc)
      no_low (suc zero) {name} at = absurd (let wrong : High ≡ Named name = some-same High (Named name) at in cc)
      no_low (suc (suc n)) at = omega arith

  pub net_within : (n : ℕ) → net_named circuit number ≡ Some n → n < length (nets circuit)
  net_within n is =
      let it = net_is_at circuit numbering number n is in
      slice_get-some (nets circuit) n it.net it.here

  pub is_printed : (n : ℕ) (name : Name) (text : List ℕ) → net_named circuit number ≡ Some n → slice_get (nets circuit) n ≡ Some (Named name)
      → text ≡ printed name → IsPrinted circuit.netlist number text
  is_printed n name text is at spelled =
      let it = net_is_at circuit numbering number n is in
      (name, it.there ∙ sym it.here ∙ at, sym spelled)

  pub net_there : number < count_nets circuit.netlist → net_named circuit number ≡ None → ⊥
  net_there low none = elim (cases_lt number (first_output circuit)) [
    | inl less ↦
        (let here : net_named circuit number ≡ Some number = rw (lt-ltb number (first_output circuit) less) refl in
        none-some number (sym none ∙ here))
    | inr high ↦
        (let here : net_named circuit number ≡ slice_get circuit.gate_outputs (number - first_output circuit) = rw (le-ltb number (first_output circuit) high) refl in
        let long = slice_get-none circuit.gate_outputs (number - first_output circuit) (sym here ∙ none) in
        omega (
          arith,
          long,
          low,
          high,
          numbering.gate_outputs.count,
          length-map circuit.netlist.gates (λ (gate : Gate). Named gate.output),
        ))
  ]

pub count_is : (circuit : Numbered) → IsNumbering circuit → length (nets circuit) ≡ count_nets circuit.netlist
count_is circuit numbering =
    let outputs : List Name = map (λ (gate : Gate). gate.output) circuit.ordered in
    omega (
      arith,
      length-map (circuit.netlist.inputs ++ outputs) (λ (n : Name). Named n),
      length-append circuit.netlist.inputs outputs,
      length-map circuit.ordered (λ (gate : Gate). gate.output),
      numbering.count,
    )
