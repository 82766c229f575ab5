-- What stands in a list: one appended to another, joined, mapped, filtered.
use Rattle.std.proofs.Common.{◌≡◌, zero, suc, Bool, true, false, cond, List, [], ◌∷◌, ◌++◌, map, filter, refl, sym, ap, ◌∙◌, subst, arith, ◌⊎◌, inl, inr}
use Rattle.std.specs.List.{Contains, flat_map}

module _ {X : Type 0} where
  pub first : (x : X) (xs : List X) → Contains (x ∷ xs) x
  first x xs = (0, omega arith, refl)

  pub later : (x y : X) (xs : List X) → Contains xs x → Contains (y ∷ xs) x
  later x y xs has = (suc has.0, omega (arith, has.1), has.2)

  pub one_of : (x y : X) (xs : List X) → Contains (y ∷ xs) x → (y ≡ x) ⊎ Contains xs x
  one_of x y xs (zero, below, at) = inl at
  one_of x y xs (suc k, below, at) = inr (k, omega arith, at)

  pub nowhere : {A : Type 0} (x : X) → Contains [] x → A
  nowhere x has = absurd (omega (arith, has.1))

  pub in_front : (x : X) (xs ys : List X) → Contains xs x → Contains (xs ++ ys) x
  in_front x [] ys has = nowhere x has
  in_front x (y ∷ xs) ys has = elim (one_of x y xs has) [
    | inl same ↦ subst (λ (z : X). Contains (y ∷ (xs ++ ys)) z) same (first y (xs ++ ys))
    | inr rest ↦ later x y (xs ++ ys) (in_front x xs ys rest)
  ]

  pub behind : (x : X) (xs ys : List X) → Contains ys x → Contains (xs ++ ys) x
  behind x [] ys has = has
  behind x (y ∷ xs) ys has = later x y (xs ++ ys) (behind x xs ys has)

  pub either_side : (x : X) (xs ys : List X) → Contains (xs ++ ys) x → Contains xs x ⊎ Contains ys x
  either_side x [] ys has = inr has
  either_side x (y ∷ xs) ys has = elim (one_of x y (xs ++ ys) has) [
    | inl same ↦ inl (subst (λ (z : X). Contains (y ∷ xs) z) same (first y xs))
    | inr rest ↦ elim (either_side x xs ys rest) [
      | inl left ↦ inl (later x y xs left)
      | inr right ↦ inr right
    ]
  ]

  pub between : (before : List X) (x : X) (after : List X) → Contains (before ++ x ∷ after) x
  between before x after = behind x before (x ∷ after) (first x after)

  pub filtered : (p : X → Bool) (x : X) (xs : List X) → Contains xs x → p x ≡ true → Contains (filter p xs) x
  filtered p x [] has passes = nowhere x has
  filtered p x (y ∷ xs) has passes = by (p y) refl (λ rest. filtered p x xs rest passes) (one_of x y xs has)
    where
      by : (b : Bool) → p y ≡ b → (Contains xs x → Contains (filter p xs) x) → (y ≡ x) ⊎ Contains xs x → Contains (cond b (y ∷ filter p xs) (filter p xs)) x
      by true e more (inl same) = subst (λ (z : X). Contains (y ∷ filter p xs) z) same (first y (filter p xs))
      by true e more (inr rest) = later x y (filter p xs) (more rest)
      by false e more (inl same) = absurd (let same_test : p y ≡ p x = ap p same in cc)
      by false e more (inr rest) = more rest

  pub of_filtered : (p : X → Bool) (x : X) (xs : List X) → Contains (filter p xs) x → Contains xs x × (p x ≡ true)
  of_filtered p x [] has = nowhere x has
  of_filtered p x (y ∷ xs) has = by (p y) refl (of_filtered p x xs) has
    where
      by : (b : Bool) → p y ≡ b → (Contains (filter p xs) x → Contains xs x × (p x ≡ true)) → Contains (cond b (y ∷ filter p xs) (filter p xs)) x → Contains (y ∷ xs) x × (p x ≡ true)
      by true e more has = elim (one_of x y (filter p xs) has) [
        | inl same ↦ (subst (λ (z : X). Contains (y ∷ xs) z) same (first y xs), sym (ap p same) ∙ e)
        | inr rest ↦ (let found = more rest in (later x y xs found.0, found.1))
      ]
      by false e more has = let found = more has in (later x y xs found.0, found.1)

module _ {X Y : Type 0} where
  pub mapped : (f : X → Y) (x : X) (xs : List X) → Contains xs x → Contains (map f xs) (f x)
  mapped f x [] has = nowhere x has
  mapped f x (y ∷ xs) has = elim (one_of x y xs has) [
    | inl same ↦ subst (λ (z : X). Contains (f y ∷ map f xs) (f z)) same (first (f y) (map f xs))
    | inr rest ↦ later (f x) (f y) (map f xs) (mapped f x xs rest)
  ]

  pub of_mapped : (f : X → Y) (y : Y) (xs : List X) → Contains (map f xs) y → (x : X) × Contains xs x × (f x ≡ y)
  of_mapped f y [] has = nowhere y has
  of_mapped f y (x ∷ xs) has = elim (one_of y (f x) (map f xs) has) [
    | inl same ↦ (x, first x xs, same)
    | inr rest ↦ (let found = of_mapped f y xs rest in (found.0, later found.0 x xs found.1, found.2))
  ]

  pub gathered : (f : X → List Y) (x : X) (y : Y) (xs : List X) → Contains xs x → Contains (f x) y → Contains (flat_map f xs) y
  gathered f x y [] has in_it = nowhere x has
  gathered f x y (z ∷ xs) has in_it = elim (one_of x z xs has) [
    | inl same ↦ in_front y (f z) (flat_map f xs) (subst (λ (w : X). Contains (f w) y) (sym same) in_it)
    | inr rest ↦ behind y (f z) (flat_map f xs) (gathered f x y xs rest in_it)
  ]

  pub of_gathered : (f : X → List Y) (y : Y) (xs : List X) → Contains (flat_map f xs) y → (x : X) × Contains xs x × Contains (f x) y
  of_gathered f y [] has = nowhere y has
  of_gathered f y (z ∷ xs) has = elim (either_side y (f z) (flat_map f xs) has) [
    | inl here ↦ (z, first z xs, here)
    | inr rest ↦ (let found = of_gathered f y xs rest in (found.0, later found.0 z xs found.1, found.2))
  ]
