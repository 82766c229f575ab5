-- Lists in which nothing stands twice.
use Rattle.std.proofs.Common.{◌≡◌, ◌≢◌, ℕ, zero, suc, ◌≤◌, List, [], ◌∷◌, ◌++◌, length, Some, refl, sym, ap, ◌∙◌, subst, arith, inl, inr}
use Rattle.std.specs.Prelude.{slice_get}
use Rattle.std.specs.List.{Contains}
use Rattle.td_gates.proofs.Places.{none-some, some-same, slice_get-Contains, Contains-slice_get}
use Rattle.td_netlist.proofs.Members.{first, later, one_of, nowhere, behind, either_side}

module _ {X : Type 0} where
  -- no element stands twice
  abbrev pub Distinct : List X → Type 0
  Distinct xs = (i j : ℕ) (x : X) → slice_get xs i ≡ Some x → slice_get xs j ≡ Some x → i ≡ j

  pub distinct_nil : Distinct []
  distinct_nil i j x at too = absurd (none-some x at)

  pub distinct_cons : (x : X) (xs : List X) → ¬ Contains xs x → Distinct xs → Distinct (x ∷ xs)
  distinct_cons x xs new apart zero zero y at too = refl
  distinct_cons x xs new apart zero (suc j) y at too =
      let same : x ≡ y = some-same x y at in
      absurd (new (slice_get-Contains xs j x (too ∙ ap (λ (z : X). Some z) (sym same))))
  distinct_cons x xs new apart (suc i) zero y at too =
      let same : x ≡ y = some-same x y too in
      absurd (new (slice_get-Contains xs i x (at ∙ ap (λ (z : X). Some z) (sym same))))
  distinct_cons x xs new apart (suc i) (suc j) y at too = ap suc (apart i j y at too)

  pub distinct_head : (x : X) (xs : List X) → Distinct (x ∷ xs) → ¬ Contains xs x
  distinct_head x xs apart has =
      let place = Contains-slice_get xs x has in
      let same : 0 ≡ suc place.0 = apart 0 (suc place.0) x refl place.1 in
      omega arith

  pub distinct_tail : (x : X) (xs : List X) → Distinct (x ∷ xs) → Distinct xs
  distinct_tail x xs apart i j y at too = let same : suc i ≡ suc j = apart (suc i) (suc j) y at too in omega arith

  pub distinct_append : (xs ys : List X) → Distinct xs → Distinct ys → ((x : X) → Contains ys x → ¬ Contains xs x) → Distinct (xs ++ ys)
  distinct_append [] ys apart others free = others
  distinct_append (x ∷ xs) ys apart others free =
      distinct_cons x (xs ++ ys)
      (λ has. elim (either_side x xs ys has) [
        | inl left ↦ distinct_head x xs apart left
        | inr right ↦ free x right (first x xs)
      ])
      (distinct_append xs ys (distinct_tail x xs apart) others (λ y has in_it. free y has (later y x xs in_it)))

  pub distinct_push : (xs : List X) (x : X) → Distinct xs → ¬ Contains xs x → Distinct (xs ++ x ∷ [])
  distinct_push xs x apart new =
      distinct_append xs (x ∷ []) apart (distinct_cons x [] (λ has. nowhere x has) distinct_nil)
      (λ y has in_it. elim (one_of y x [] has) [
        | inl same ↦ new (subst (λ (z : X). Contains xs z) (sym same) in_it)
        | inr rest ↦ nowhere y rest
      ])

  -- an element that stands before another place of the list too
  pub not_distinct : (before : List X) (x : X) (after : List X) → Contains before x → ¬ Distinct (before ++ x ∷ after)
  not_distinct [] x after has apart = nowhere x has
  not_distinct (y ∷ before) x after has apart = elim (one_of x y before has) [
    | inl same ↦ distinct_head y (before ++ x ∷ after) apart (behind y before (x ∷ after) (subst (λ (z : X). Contains (x ∷ after) z) (sym same) (first x after)))
    | inr rest ↦ not_distinct before x after rest (distinct_tail y (before ++ x ∷ after) apart)
  ]

  -- a list without one of its elements
  record Without (xs : List X) (x : X) : Type 0 where
    rest : List X
    shorter : length xs ≡ suc (length rest)
    others : (y : X) → Contains xs y → y ≢ x → Contains rest y

  without : (xs : List X) (x : X) → Contains xs x → Without xs x
  without [] x has = nowhere x has
  without (z ∷ xs) x has = elim (one_of x z xs has) [
    | inl same ↦ record {
      rest = xs;
      shorter = omega arith;
      others = λ y in_it other. elim (one_of y z xs in_it) [ inl is ↦ absurd (other (sym is ∙ same)) | inr later ↦ later ];
    }
    | inr rest ↦ (let less = without xs x rest in record {
      rest = z ∷ less.rest;
      shorter = omega (arith, less.shorter);
      others = λ y in_it other. elim (one_of y z xs in_it) [
        | inl is ↦ subst (λ (w : X). Contains (z ∷ less.rest) w) is (first z less.rest)
        | inr more ↦ later y z less.rest (less.others y more other)
      ];
    })
  ]

  -- distinct elements of another list are no more than it has
  pub no_more : (xs ys : List X) → Distinct xs → ((x : X) → Contains xs x → Contains ys x) → length xs ≤ length ys
  no_more [] ys apart are = omega arith
  no_more (x ∷ xs) ys apart are =
      let less = without ys x (are x (first x xs)) in
      let rest : length xs ≤ length less.rest =
      no_more xs less.rest (distinct_tail x xs apart)
      (λ y in_it. less.others y (are y (later y x xs in_it)) (λ same. distinct_head x xs apart (subst (λ (w : X). Contains xs w) same in_it))) in
      omega (arith, less.shorter, rest)
