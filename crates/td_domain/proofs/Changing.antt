-- The bits of one input of an admitted pair change.
use Rattle.std.proofs.Common.{◌≡◌, ℕ, zero, suc, ◌+◌, ◌-◌, ◌*◌, ◌<◌, ◌≤◌, Bool, true, false, List, [], ◌∷◌, length, set, get_or, refl, arith, sym, ap, ◌∙◌, subst, Some}
use Rattle.std.specs.Prelude.{slice_get}
use Rattle.std.proofs.lemmas.List.{get_or_default}
use Rattle.td_gates.proofs.Places.{some-same}
use Rattle.td_domain.specs.declared.cubes.Trit.{Trit}
use Rattle.td_domain.specs.Cubes.{Allows, AllowsBits}
use Rattle.td_domain.specs.Admits.{Admitted, IsAdmitted, AreHeld, flip_of, flips_of}
use Rattle.td_domain.specs.PairBits.{IsFit}

-- a pair in a cube has a bit for each input
pub vectors_in : (inputs : ℕ) (cube : List Trit) (before after : List Bool) → length cube ≡ 2 * inputs → AllowsBits cube before after
    → (length before ≡ inputs) × (length after ≡ inputs)
vectors_in inputs [] [] [] positions is = (omega arith, omega arith)
vectors_in inputs [] [] (b ∷ after) positions is = absurd is
vectors_in inputs [] (a ∷ before) after positions is = absurd is
vectors_in inputs (t ∷ []) before after positions is = absurd is
vectors_in inputs (t ∷ u ∷ cube) [] after positions is = absurd is
vectors_in inputs (t ∷ u ∷ cube) (a ∷ before) [] positions is = absurd is
vectors_in zero (t ∷ u ∷ cube) (a ∷ before) (b ∷ after) positions is = absurd (omega arith)
vectors_in (suc inputs) (t ∷ u ∷ cube) (a ∷ before) (b ∷ after) positions is =
    let more = vectors_in inputs cube before after (omega arith) is.2 in
    (omega (arith, more.0), omega (arith, more.1))

-- the flips where an input's bits are others
pub flips-set : (xs ys : List Bool) (i : ℕ) (a b : Bool) → i < length xs → i < length ys
    → flips_of (set xs i a) (set ys i b) + flip_of (get_or xs i false) (get_or ys i false) ≡ flips_of xs ys + flip_of a b
flips-set [] ys i a b x y = absurd (omega arith)
flips-set (c ∷ xs) [] i a b x y = absurd (omega arith)
flips-set (c ∷ xs) (d ∷ ys) zero a b x y = omega arith
flips-set (c ∷ xs) (d ∷ ys) (suc i) a b x y =
    let more = flips-set xs ys i a b (omega arith) (omega arith) in
    omega (arith, more)

-- an input's flip is one of them
pub flips-have : (xs ys : List Bool) (i : ℕ) → i < length xs → i < length ys
    → flip_of (get_or xs i false) (get_or ys i false) ≤ flips_of xs ys
flips-have [] ys i x y = absurd (omega arith)
flips-have (c ∷ xs) [] i x y = absurd (omega arith)
flips-have (c ∷ xs) (d ∷ ys) zero x y = omega arith
flips-have (c ∷ xs) (d ∷ ys) (suc i) x y =
    let more = flips-have xs ys i (omega arith) (omega arith) in
    omega (arith, more)

-- what the other inputs' flips and those of an input's new bits are together
pub flips-changed : (xs ys : List Bool) (i : ℕ) (p q : Bool) (flip flips : ℕ) → i < length xs → i < length ys → p ≡ get_or xs i p → q ≡ get_or ys i q
    → flip ≡ flip_of p q → flips ≡ flips_of xs ys
    → (flip ≤ flips) × ((a b : Bool) → flips - flip + flip_of a b ≡ flips_of (set xs i a) (set ys i b))
flips-changed xs ys i p q flip flips x y at_first at_second is all =
    let first : get_or xs i false ≡ p = get_or_default xs i false p x ∙ sym at_first in
    let second : get_or ys i false ≡ q = get_or_default ys i false q y ∙ sym at_second in
    let same : flip_of (get_or xs i false) (get_or ys i false) ≡ flip = rw (first, second) (sym is) in
    let have = flips-have xs ys i x y in
    (omega (arith, same, have, all), λ a b. (let more = flips-set xs ys i a b x y in omega (arith, same, have, all, more)))

-- a pair stays in a cube
allows-set : (cube : List Trit) (xs ys : List Bool) (i : ℕ) (a b : Bool) → AllowsBits cube xs ys
    → ((t : Trit) → slice_get cube (2 * i) ≡ Some t → Allows t a) → ((t : Trit) → slice_get cube (2 * i + 1) ≡ Some t → Allows t b)
    → AllowsBits cube (set xs i a) (set ys i b)
allows-set [] [] [] i a b is first second = tt
allows-set [] [] (y ∷ ys) i a b is first second = absurd is
allows-set [] (x ∷ xs) ys i a b is first second = absurd is
allows-set (t ∷ []) xs ys i a b is first second = absurd is
allows-set (t ∷ u ∷ cube) [] ys i a b is first second = absurd is
allows-set (t ∷ u ∷ cube) (x ∷ xs) [] i a b is first second = absurd is
allows-set (t ∷ u ∷ cube) (x ∷ xs) (y ∷ ys) zero a b is first second = (first t refl, second u refl, is.2)
allows-set (t ∷ u ∷ cube) (x ∷ xs) (y ∷ ys) (suc i) a b is first second =
    let low : suc (suc (2 * i)) ≡ 2 * suc i = omega arith in
    let high : suc (suc (2 * i + 1)) ≡ 2 * suc i + 1 = omega arith in (
      is.0,
      is.1,
      allows-set cube xs ys i a b is.2
          (λ v h. first v (ap (slice_get (t ∷ u ∷ cube)) (sym low) ∙ h))
          (λ v h. second v (ap (slice_get (t ∷ u ∷ cube)) (sym high) ∙ h)),
    )

-- held inputs stay so
held-set : (held xs ys : List Bool) (i : ℕ) (a b : Bool) → AreHeld held xs ys → (slice_get held i ≡ Some true → a ≡ b)
    → AreHeld held (set xs i a) (set ys i b)
held-set [] xs ys i a b is same = tt
held-set (h ∷ held) [] ys i a b is same = tt
held-set (h ∷ held) (x ∷ xs) [] zero a b is same = tt
held-set (h ∷ held) (x ∷ xs) [] (suc i) a b is same = tt
held-set (h ∷ held) (x ∷ xs) (y ∷ ys) zero a b is same = ((λ e. same (ap (λ k. Some k) e)), is.1)
held-set (h ∷ held) (x ∷ xs) (y ∷ ys) (suc i) a b is same = (is.0, held-set held xs ys i a b is.1 same)

-- an admitted pair stays admitted
pub stays : (admit : Admitted) (xs ys : List Bool) (i : ℕ) (a b : Bool) → IsAdmitted admit (record { first = xs; second = ys })
    → IsFit admit i a b → flips_of (set xs i a) (set ys i b) ≤ admit.flips
    → IsAdmitted admit (record { first = set xs i a; second = set ys i b })
stays admit xs ys i a b is fit few = record {
  pinned = allows-set admit.pins xs ys i a b is.pinned fit.first fit.second;
  held = held-set admit.held xs ys i a b is.held fit.held;
  few = few;
}

-- bits that fit an input with these trits
pub fit : (admit : Admitted) (i : ℕ) (a b held : Bool) (t u : Trit) → slice_get admit.pins (2 * i) ≡ Some t → slice_get admit.pins (2 * i + 1) ≡ Some u
    → slice_get admit.held i ≡ Some held → Allows t a → Allows u b → (held ≡ true → a ≡ b) → IsFit admit i a b
fit admit i a b held t u first second keeps x y same = record {
  first = λ v h. subst (λ (w : Trit). Allows w a) (some-same t v (sym first ∙ h)) x;
  second = λ v h. subst (λ (w : Trit). Allows w b) (some-same u v (sym second ∙ h)) y;
  held = λ h. same (some-same held true (sym keeps ∙ h));
}
