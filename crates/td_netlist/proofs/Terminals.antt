-- The terminals of an instance on both sides of a place, which may lie after the last.
use Rattle.std.proofs.Common.{◌≡◌, ℕ, ◌<◌, Bool, true, false, List, length, map, take, drop, min, refl, sym, ap, ◌∙◌, arith}
use Rattle.std.specs.Prelude.{nat_lt}
use Rattle.std.proofs.Math.Nat.{min-eq_left, min-eq_right}
use Rattle.std.proofs.lemmas.Bool.{ltb-true, ltb-false}
use Rattle.std.proofs.lemmas.List.{drop_all}
use Rattle.std.specs.List.{take-map, drop-map}
use Rattle.std.proofs.lemmas.List.{take_all}

module _ {X Y : Type 0} (f : X → Y) (k : ℕ) (xs : List X) where
  take_by : (b : Bool) → nat_lt (length xs) k ≡ b → take (min k (length xs)) xs ≡ take k xs
  take_by true e =
      let lt : length xs < k = ltb-true _ _ e in
      ap (λ (n : ℕ). take n xs) (min-eq_right {n = length xs} {m = k} (omega (arith, lt))) ∙ take_all (length xs) xs (omega arith) ∙ sym (take_all k xs (omega (arith, lt)))
  take_by false e = ap (λ (n : ℕ). take n xs) (min-eq_left (ltb-false _ _ e))

  drop_by : (b : Bool) → nat_lt (length xs) k ≡ b → drop (min k (length xs)) xs ≡ drop k xs
  drop_by true e =
      let lt : length xs < k = ltb-true _ _ e in
      ap (λ (n : ℕ). drop n xs) (min-eq_right {n = length xs} {m = k} (omega (arith, lt))) ∙ drop_all (length xs) xs (omega arith) ∙ sym (drop_all k xs (omega (arith, lt)))
  drop_by false e = ap (λ (n : ℕ). drop n xs) (min-eq_left (ltb-false _ _ e))

  pub front_of : (n m : ℕ) → n ≡ m → k ≡ m → map f (take (min n (length xs)) xs) ≡ take m (map f xs)
  front_of n m e h = ap (λ (j : ℕ). map f (take (min j (length xs)) xs)) (e ∙ sym h) ∙ ap (λ (ys : List X). map f ys) (take_by (nat_lt (length xs) k) refl) ∙ sym (take-map f k xs) ∙ ap (λ (j : ℕ). take j (map f xs)) h

  pub rest_of : (n m : ℕ) → n ≡ m → k ≡ m → map f (drop (min n (length xs)) xs) ≡ drop m (map f xs)
  rest_of n m e h = ap (λ (j : ℕ). map f (drop (min j (length xs)) xs)) (e ∙ sym h) ∙ ap (λ (ys : List X). map f ys) (drop_by (nat_lt (length xs) k) refl) ∙ sym (drop-map f k xs) ∙ ap (λ (j : ℕ). drop j (map f xs)) h
