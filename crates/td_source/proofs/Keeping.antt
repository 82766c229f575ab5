-- The outputs that are kept, as they are found, and why they can be a netlist's.
use Rattle.std.proofs.Common.{◌≡◌, ◌<◌, ◌+◌, ◌∙◌, ◌==◌, ◌||◌, ℕ, zero, suc, Bool, true, false, List, [], ◌∷◌, ◌++◌, length, take, map, get_or, refl, sym, ap, subst, arith, inl, inr, slice_get, Some, true≢false}
use Rattle.std.proofs.lemmas.Bool.{cases_eq, eqb-true, eq-eqb}
use Rattle.std.specs.Borrow.{Bor}
use Rattle.std.specs.List.{Contains, list_any}
use Rattle.std.proofs.lemmas.List.Elements.{Contains-append_left, Contains-append_right}
use Rattle.td_gates.proofs.Places.{none-some, slice_get-some, Contains-slice_get, slice_get-Contains, get-slice_get, slice_get-map_some, take_push}
use Rattle.td_nets.specs.Netlist.{Name, Netlist}
use Rattle.td_nets.specs.Outputs.{CanBeOutputs}
use Rattle.td_nets.specs.WellFormed.{IsWellFormed}
use Rattle.td_source.specs.Kept.{Rise, AreAt}
use Rattle.td_source.specs.Reads.{IsFirstNamed, HasNoneNamed, IsNamed, ArePlaces, AreOutputsIn}
use Rattle.td_source.specs.Places.{ArePlacesOf, AreSorted, NamesNoneOf}
use Rattle.td_source.proofs.Naming.{one_place}
use Rattle.td_source.proofs.Rising.{none_in, at_head, in_tail, head_or_tail, pushed_cases, rise_more, rise_once}

-- ---- the places of words

-- as `ArePlacesOf`, of the first words, as many as the count
pub record AreFound (netlist : Netlist) (words : List (List ℕ)) (count : ℕ) (places : List ℕ) : Type 0 where
  pub each : (word : List ℕ) → Contains (take count words) word → (place : ℕ) × Contains places place × IsFirstNamed netlist word place
  pub only : (place : ℕ) → Contains places place → IsNamed netlist words place

pub found_none : (netlist : Netlist) (words : List (List ℕ)) → AreFound netlist words 0 []
found_none netlist words = record {
  each = λ word has. absurd (none_in word has);
  only = λ place has. absurd (none_in place has);
}

pub found_more : (netlist : Netlist) (words : List (List ℕ)) (count : ℕ) (word : List ℕ) (place : ℕ) (places new : List ℕ) → slice_get words count ≡ Some word
    → IsFirstNamed netlist word place → new ≡ places ++ place ∷ [] → AreFound netlist words count places → AreFound netlist words (count + 1) new
found_more netlist words count word place places new at first added are =
    subst (λ (ps : List ℕ). AreFound netlist words (count + 1) ps) (sym added) (record {
      each = λ other has. elim (pushed_cases (take count words) word other (rw taken at has)) [
        | inl before ↦ (let old = are.each other before in (old.0, Contains-append_left places (place ∷ []) old.0 old.1, old.2))
        | inr same ↦ (place, Contains-append_right places (place ∷ []) place (at_head place []), subst (λ (w : List ℕ). IsFirstNamed netlist w place) same first)
      ];
      only = λ other has. elim (pushed_cases places place other has) [
        | inl before ↦ are.only other before
        | inr same ↦ subst (λ (p : ℕ). IsNamed netlist words p) same (word, slice_get-Contains words count word at, first)
      ];
    })
  where
    taken : take (count + 1) words ≡ take count words ++ word ∷ []
    taken = (let next : count + 1 ≡ suc count = omega arith in ap (λ (n : ℕ). take n words) next) ∙ take_push words count word at

pub found_all : (netlist : Netlist) (words : List (List ℕ)) (count : ℕ) (places : List ℕ) → take count words ≡ words
    → AreFound netlist words count places → ArePlacesOf netlist words places
found_all netlist words count places all are = record {
  each = λ word has. are.each word (subst (λ (ws : List (List ℕ)). Contains ws word) (sym all) has);
  only = are.only;
}

pub none_of : (netlist : Netlist) (words : List (List ℕ)) (count : ℕ) (word : List ℕ) → slice_get words count ≡ Some word → HasNoneNamed netlist word
    → NamesNoneOf netlist words
none_of netlist words count word at none = (word, slice_get-Contains words count word at, none)

-- the word at a place
word_at : (words : List (Bor (List ℕ))) (i : ℕ) (d : Bor (List ℕ)) → i < length words → slice_get (map (λ word. word.now) words) i ≡ Some (get_or words i d).now
word_at words i d less = slice_get-map_some (λ (w : Bor (List ℕ)). w.now) words i (get_or words i d) (get-slice_get words i d (get_or words i d) less refl)

pub none_next : (netlist : Netlist) (words : List (Bor (List ℕ))) (i : ℕ) (d : Bor (List ℕ)) → i < length words → HasNoneNamed netlist (get_or words i d).now
    → NamesNoneOf netlist (map (λ word. word.now) words)
none_next netlist words i d less none = none_of netlist (map (λ word. word.now) words) i (get_or words i d).now (word_at words i d less) none

pub found_next : (netlist : Netlist) (words : List (Bor (List ℕ))) (i : ℕ) (d : Bor (List ℕ)) (place : ℕ) (places new : List ℕ) → i < length words
    → IsFirstNamed netlist (get_or words i d).now place → new ≡ places ++ place ∷ [] → AreFound netlist (map (λ word. word.now) words) i places
    → AreFound netlist (map (λ word. word.now) words) (i + 1) new
found_next netlist words i d place places new less first added are =
    found_more netlist (map (λ word. word.now) words) i (get_or words i d).now place places new (word_at words i d less) first added are

-- ---- the places in order

pub any_has : (found : List ℕ) (place : ℕ) → list_any (λ y. y == place) found ≡ true → Contains found place
any_has [] place e = absurd cc
any_has (x ∷ xs) place e = go (x == place) refl (any_has xs place) e
  where
    go : (is : Bool) → (x == place) ≡ is → (list_any (λ y. y == place) xs ≡ true → Contains xs place) → (is || list_any (λ y. y == place) xs) ≡ true
        → Contains (x ∷ xs) place
    go true same later e = subst (λ (n : ℕ). Contains (x ∷ xs) n) (eqb-true x place same) (at_head x xs)
    go false other later e = in_tail x xs place (later e)

pub any_none : (found : List ℕ) (place : ℕ) → list_any (λ y. y == place) found ≡ false → ¬ Contains found place
any_none [] place e has = none_in place has
any_none (x ∷ xs) place e has = go (x == place) refl (any_none xs place) e
  where
    go : (is : Bool) → (x == place) ≡ is → (list_any (λ y. y == place) xs ≡ false → ¬ Contains xs place) → (is || list_any (λ y. y == place) xs) ≡ false → ⊥
    go true same later e = true≢false e
    go false other later e = elim (head_or_tail x xs place has) [
      | inl same ↦ true≢false (sym (eq-eqb x place same) ∙ other)
      | inr behind ↦ later e behind
    ]

pub sorted_none : (found : List ℕ) → AreSorted 0 found []
sorted_none found = record {
  rising = tt;
  are = λ place. ((λ has. absurd (none_in place has)), (λ has. absurd (omega (arith, has.1))));
}

pub sorted_more : (count : ℕ) (found places new : List ℕ) → Contains found count → new ≡ places ++ count ∷ [] → AreSorted count found places
    → AreSorted (count + 1) found new
sorted_more count found places new stands added are =
    subst (λ (ps : List ℕ). AreSorted (count + 1) found ps) (sym added) (record {
      rising = rise_more places count are.rising (λ y has. ((are.are y).0 has).1);
      are = λ place. (
        (λ has. elim (pushed_cases places count place has) [
          | inl before ↦ (let old = (are.are place).0 before in (old.0, omega (arith, old.1)))
          | inr same ↦ (subst (λ (p : ℕ). Contains found p) same stands, omega (arith, same))
        ]),
        (λ has. elim (cases_eq place count) [
          | inl same ↦ Contains-append_right places (count ∷ []) place (subst (λ (p : ℕ). Contains (count ∷ []) p) (sym same) (at_head count []))
          | inr less ↦ Contains-append_left places (count ∷ []) place ((are.are place).1 (has.0, omega (arith, less, has.1)))
        ]),
      );
    })

pub sorted_skip : (count : ℕ) (found places : List ℕ) → (¬ Contains found count) → AreSorted count found places → AreSorted (count + 1) found places
sorted_skip count found places none are = record {
  rising = are.rising;
  are = λ place. (
    (λ has. let old = (are.are place).0 has in (old.0, omega (arith, old.1))),
    (λ has. elim (cases_eq place count) [
      | inl same ↦ absurd (none (subst (λ (p : ℕ). Contains found p) same has.0))
      | inr less ↦ (are.are place).1 (has.0, omega (arith, less, has.1))
    ]),
  );
}

-- ---- the outputs that are kept

-- the places of words, in order
pub places_sorted : (netlist : Netlist) (words : List (List ℕ)) (found places : List ℕ) → ArePlacesOf netlist words found
    → AreSorted (length netlist.outputs) found places → ArePlaces netlist words places
places_sorted netlist words found places of_words sorted = record {
  each = λ word has. (let found = of_words.each word has in (found.0, found.2));
  rising = sorted.rising;
  named = λ place. (
    (λ has. of_words.only place ((sorted.are place).0 has).0),
    (λ named.
        let at = of_words.each named.0 named.1 in
        let same : at.0 ≡ place = one_place netlist named.0 at.0 place at.2 named.2 in
        (sorted.are place).1 (subst (λ (p : ℕ). Contains found p) same at.1, slice_get-some netlist.outputs place named.2.output named.2.stands)),
  );
}

-- the outputs that words name
pub named_are : (netlist : Netlist) (words : List (Bor (List ℕ))) (count : ℕ) (found places : List ℕ) → false ≡ (length words == 0) → count ≡ length netlist.outputs
    → ArePlacesOf netlist (map (λ word. word.now) words) found → AreSorted count found places
    → AreOutputsIn netlist (map (λ word. word.now) words) (Some places)
named_are netlist [] count found places some same of_words sorted = absurd (true≢false (sym some))
named_are netlist (word ∷ words) count found places some same of_words sorted =
    (places, refl, places_sorted netlist (map (λ word. word.now) (word ∷ words)) found places of_words (subst (λ (n : ℕ). AreSorted n found places) same sorted))

-- the output of a name that is kept, and its place
pub kept_at : (netlist : Netlist) (places : List ℕ) (names : List Name) (i : ℕ) (name : Name) → AreAt netlist places names → slice_get names i ≡ Some name
    → (place : ℕ) × (slice_get places i ≡ Some place) × (slice_get netlist.outputs place ≡ Some name)
kept_at netlist [] [] i name are at = absurd (none-some name at)
kept_at netlist [] (first ∷ names) i name are at = absurd cc
kept_at netlist (place ∷ places) [] i name are at = absurd cc
kept_at netlist (place ∷ places) (first ∷ names) zero name are at =
    let here : slice_get netlist.outputs place ≡ Some first = cc in
    (place, refl, here ∙ at)
kept_at netlist (place ∷ places) (first ∷ names) (suc i) name are at =
    let later : AreAt netlist places names = cc in
    kept_at netlist places names i name later at

pub kept_can : (netlist : Netlist) (places : List ℕ) (names : List Name) → IsWellFormed netlist → Rise places → AreAt netlist places names
    → CanBeOutputs netlist names
kept_can netlist places names formed rising are = record {
  driven = λ name has.
      let at = Contains-slice_get names name has in
      let kept = kept_at netlist places names at.0 name are at.1 in
      formed.outputs name (slice_get-Contains netlist.outputs kept.0 name kept.2);
  distinct = λ i j name one other.
      let here = kept_at netlist places names i name are one in
      let there = kept_at netlist places names j name are other in
      let same : there.0 ≡ here.0 = formed.distinct_outputs there.0 here.0 name there.2 here.2 in
      rise_once places i j here.0 rising here.1 (there.1 ∙ ap (λ (p : ℕ). Some p) same);
}
