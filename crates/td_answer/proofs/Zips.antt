-- Two lists of one length, element by element.
use Rattle.std.proofs.Common.{◌≡◌, ◌∙◌, ◌<◌, ◌≤◌, ◌+◌, ℕ, zero, suc, List, [], ◌∷◌, ◌++◌, length, take, get_or, refl, sym, ap, subst, arith, Some, slice_get}
use Rattle.std.specs.Prelude.{map, All}
use Rattle.std.specs.List.{AllZip}
use Rattle.std.proofs.lemmas.Option.{none-some}
use Rattle.std.proofs.lemmas.List.{take_more, take_all}
use Rattle.std.proofs.lemmas.List.Elements.{All-cons}
use Rattle.td_gates.proofs.Places.{some-same, get-slice_get, take_push}

module _ {A B : Type 0} (R : A → B → Type 0) where
  zip_push : (xs : List A) (ys : List B) (x : A) (y : B) → AllZip R xs ys → R x y → AllZip R (xs ++ x ∷ []) (ys ++ y ∷ [])
  zip_push [] [] x y all r = (r, tt)
  zip_push [] (b ∷ ys) x y all r = absurd all
  zip_push (a ∷ xs) [] x y all r = absurd all
  zip_push (a ∷ xs) (b ∷ ys) x y all r = (all.0, zip_push xs ys x y all.1 r)

  -- one more of each
  pub zip_more : (xs : List A) (ys : List B) (i : ℕ) (d : A) (y : B) → i < length xs → AllZip R (take i xs) ys → R (get_or xs i d) y
      → AllZip R (take (i + 1) xs) (ys ++ y ∷ [])
  zip_more xs ys i d y less all r =
      subst (λ (front : List A). AllZip R front (ys ++ y ∷ [])) (sym (take_more xs i d less)) (zip_push (take i xs) ys (get_or xs i d) y all r)

  -- one more of each, by what stands there
  pub zip_next : (xs : List A) (ys : List B) (i : ℕ) (x : A) (y : B) → slice_get xs i ≡ Some x → AllZip R (take i xs) ys → R x y
      → AllZip R (take (i + 1) xs) (ys ++ y ∷ [])
  zip_next xs ys i x y at all r =
      let next : i + 1 ≡ suc i = omega arith in
      subst (λ (front : List A). AllZip R front (ys ++ y ∷ [])) (sym (ap (λ (n : ℕ). take n xs) next ∙ take_push xs i x at)) (zip_push (take i xs) ys x y all r)

  -- two more of each
  pub zip_two : (xs : List A) (ys : List B) (a b : A) (x y : B) → AllZip R xs ys → R a x → R b y → AllZip R (xs ++ a ∷ b ∷ []) (ys ++ x ∷ y ∷ [])
  zip_two [] [] a b x y all r s = (r, (s, tt))
  zip_two [] (c ∷ ys) a b x y all r s = absurd all
  zip_two (c ∷ xs) [] a b x y all r s = absurd all
  zip_two (c ∷ xs) (d ∷ ys) a b x y all r s = (all.0, zip_two xs ys a b x y all.1 r s)

  -- all of them
  pub zip_all : (xs : List A) (ys : List B) (i : ℕ) → length xs ≤ i → AllZip R (take i xs) ys → AllZip R xs ys
  zip_all xs ys i past all = subst (λ (front : List A). AllZip R front ys) (take_all i xs past) all

  -- what holds of the elements at a place
  pub zip_at : (xs : List A) (ys : List B) → AllZip R xs ys → (i : ℕ) (x : A) (y : B) → slice_get xs i ≡ Some x → slice_get ys i ≡ Some y → R x y
  zip_at [] [] all i x y at_x at_y = absurd (none-some x at_x)
  zip_at [] (b ∷ ys) all i x y at_x at_y = absurd all
  zip_at (a ∷ xs) [] all i x y at_x at_y = absurd all
  zip_at (a ∷ xs) (b ∷ ys) all zero x y at_x at_y =
      subst (λ (it : B). R x it) (some-same b y at_y) (subst (λ (it : A). R it b) (some-same a x at_x) all.0)
  zip_at (a ∷ xs) (b ∷ ys) all (suc i) x y at_x at_y = zip_at xs ys all.1 i x y at_x at_y

  -- the same, where the element of one side is read with a default
  pub zip_read : (xs : List A) (ys : List B) → AllZip R xs ys → (i : ℕ) (default : B) → i < length ys → (x : A) → slice_get xs i ≡ Some x → R x (get_or ys i default)
  zip_read xs ys all i default less x at_x = zip_at xs ys all i x (get_or ys i default) at_x (get-slice_get ys i default (get_or ys i default) less refl)

  -- what holds of one side's elements
  pub zip_second : (P : B → Type 0) → ((x : A) (y : B) → R x y → P y) → (xs : List A) (ys : List B) → AllZip R xs ys → All P ys
  zip_second P each [] [] all = λ k d less. absurd (omega (arith, less))
  zip_second P each [] (y ∷ ys) all = absurd all
  zip_second P each (x ∷ xs) [] all = absurd all
  zip_second P each (x ∷ xs) (y ∷ ys) all = All-cons P y ys (each x y all.0) (zip_second P each xs ys all.1)

pub zip_mapped : {A B C : Type 0} (f : A → C) (R : C → B → Type 0) (xs : List A) (ys : List B) → AllZip (λ x y. R (f x) y) xs ys → AllZip R (map f xs) ys
zip_mapped f R [] [] all = tt
zip_mapped f R [] (b ∷ ys) all = absurd all
zip_mapped f R (a ∷ xs) [] all = absurd all
zip_mapped f R (a ∷ xs) (b ∷ ys) all = (all.0, zip_mapped f R xs ys all.1)
