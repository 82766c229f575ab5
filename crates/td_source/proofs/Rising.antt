-- Lists of numbers of which each is less than all that come after it.
use Rattle.std.proofs.Common.{◌≡◌, ◌<◌, ◌⊎◌, ℕ, zero, suc, List, [], ◌∷◌, ◌++◌, refl, sym, ap, ap₂, subst, arith, inl, inr, slice_get, Some}
use Rattle.std.specs.Prelude.{◌↔◌}
use Rattle.std.specs.List.{Contains}
use Rattle.std.proofs.lemmas.List.Elements.{Contains-append_cases}
use Rattle.td_gates.proofs.Places.{some-same, slice_get-Contains}
use Rattle.td_source.specs.Kept.{Rise}

-- ---- what a list contains

pub none_in : {X : Type 0} (x : X) → ¬ Contains [] x
none_in x has = omega (arith, has.1)

pub at_head : {X : Type 0} (x : X) (xs : List X) → Contains (x ∷ xs) x
at_head x xs = (0, omega arith, refl)

pub in_tail : {X : Type 0} (x : X) (xs : List X) (y : X) → Contains xs y → Contains (x ∷ xs) y
in_tail x xs y has = (suc has.0, omega (arith, has.1), has.2)

pub head_or_tail : {X : Type 0} (x : X) (xs : List X) (y : X) → Contains (x ∷ xs) y → (x ≡ y) ⊎ Contains xs y
head_or_tail x xs y (zero, below, at) = inl at
head_or_tail x xs y (suc k, below, at) = inr (k, omega arith, at)

-- one more at the end
pub pushed_cases : {X : Type 0} (xs : List X) (x y : X) → Contains (xs ++ x ∷ []) y → Contains xs y ⊎ (x ≡ y)
pushed_cases xs x y has = elim (Contains-append_cases xs (x ∷ []) y has) [
  | inl before ↦ inl before
  | inr last ↦ elim (head_or_tail x [] y last) [
    | inl same ↦ inr same
    | inr none ↦ absurd (none_in y none)
  ]
]

-- ---- rising lists

pub rise_more : (xs : List ℕ) (x : ℕ) → Rise xs → ((y : ℕ) → Contains xs y → y < x) → Rise (xs ++ x ∷ [])
rise_more [] x rise less = ((λ y has. absurd (none_in y has)), tt)
rise_more (first ∷ xs) x rise less = (
  (λ y has. elim (pushed_cases xs x y has) [
    | inl before ↦ rise.0 y before
    | inr last ↦ subst (λ (n : ℕ). first < n) last (less first (at_head first xs))
  ]),
  rise_more xs x rise.1 (λ y has. less y (in_tail first xs y has)),
)

-- no number stands twice
pub rise_once : (xs : List ℕ) (i j x : ℕ) → Rise xs → slice_get xs i ≡ Some x → slice_get xs j ≡ Some x → i ≡ j
rise_once [] i j x rise one other = absurd cc
rise_once (first ∷ xs) zero zero x rise one other = refl
rise_once (first ∷ xs) zero (suc j) x rise one other =
    let same : first ≡ x = some-same first x one in
    absurd (omega (arith, same, rise.0 x (slice_get-Contains xs j x other)))
rise_once (first ∷ xs) (suc i) zero x rise one other =
    let same : first ≡ x = some-same first x other in
    absurd (omega (arith, same, rise.0 x (slice_get-Contains xs i x one)))
rise_once (first ∷ xs) (suc i) (suc j) x rise one other = ap suc (rise_once xs i j x rise.1 one other)

-- the first of two rising lists with the same numbers
same_first : (x : ℕ) (xs : List ℕ) (y : ℕ) (ys : List ℕ) → Rise (x ∷ xs) → Rise (y ∷ ys) → Contains (y ∷ ys) x → Contains (x ∷ xs) y → x ≡ y
same_first x xs y ys p q here there = elim (head_or_tail y ys x here) [
  | inl same ↦ sym same
  | inr later ↦ elim (head_or_tail x xs y there) [
    | inl same ↦ same
    | inr behind ↦ absurd (omega (arith, q.0 x later, p.0 y behind))
  ]
]

-- what stands after the first stands after the first of the other
later_in : (x : ℕ) (xs ys : List ℕ) → Rise (x ∷ xs) → ((n : ℕ) → Contains (x ∷ xs) n → Contains (x ∷ ys) n) → (n : ℕ) → Contains xs n → Contains ys n
later_in x xs ys p to n has = elim (head_or_tail x ys n (to n (in_tail x xs n has))) [
  | inl same ↦ absurd (omega (arith, same, p.0 n has))
  | inr later ↦ later
]

pub rise_same : (xs ys : List ℕ) → Rise xs → Rise ys → ((n : ℕ) → Contains xs n ↔ Contains ys n) → xs ≡ ys
rise_same [] [] p q same = refl
rise_same [] (y ∷ ys) p q same = absurd (none_in y ((same y).1 (at_head y ys)))
rise_same (x ∷ xs) [] p q same = absurd (none_in x ((same x).0 (at_head x xs)))
rise_same (x ∷ xs) (y ∷ ys) p q same =
    let first : x ≡ y = same_first x xs y ys p q ((same x).0 (at_head x xs)) ((same y).1 (at_head y ys)) in
    let behind : Rise (x ∷ ys) = subst (λ (z : ℕ). Rise (z ∷ ys)) (sym first) q in
    let to : (n : ℕ) → Contains (x ∷ xs) n → Contains (x ∷ ys) n =
    λ n has. subst (λ (z : ℕ). Contains (z ∷ ys) n) (sym first) ((same n).0 has) in
    let from : (n : ℕ) → Contains (x ∷ ys) n → Contains (x ∷ xs) n =
    λ n has. (same n).1 (subst (λ (z : ℕ). Contains (z ∷ ys) n) first has) in
    ap₂ (λ z zs. z ∷ zs) first
    (rise_same xs ys p.1 q.1 (λ n. (later_in x xs ys p to n, later_in x ys xs behind from n)))
