-- The one pair of a cube in which nothing is free, and its delay.
use Rattle.std.proofs.Common.{◌≡◌, ◌≢◌, ◌+◌, ◌*◌, ◌≤◌, ℕ, zero, suc, Bool, List, [], ◌∷◌, ◌++◌, length, take, take_all, Some, nat_eq, refl, sym, ap, subst, ◌∙◌, arith, eq-eqb}
use Rattle.std.specs.Prelude.{slice_get, ◌↔◌, IsTrue}
use Rattle.std.proofs.lemmas.Bool.{eqb-true}
use Rattle.std.proofs.lemmas.List.Elements.{recursion_from_All}
use Rattle.td_circuit.specs.Settings.{Setting}
use Rattle.td_circuit.specs.Run.{IsDelayOfBits}
use Rattle.td_domain.specs.declared.cubes.Trit.{Trit}
use Rattle.td_domain.specs.declared.cubes.Trit.TheVariants.{Free}
use Rattle.td_domain.specs.Pairs.{Pair}
use Rattle.td_domain.specs.Cubes.{Allows, AllowsBits, IsIn, IsPoint}
use Rattle.td_certificate.specs.Accepts.{HasDelay}
use Rattle.td_certificate.proofs.Acceptance.{one_pair}
use Rattle.td_certificate.proofs.VectorCodes.{none_not, some_is}
use Rattle.td_checker.proofs.OneVerdict.{at_place}

abbrev twice : ℕ → ℕ
twice zero = zero
twice (suc n) = suc (suc (twice n))

twice_is : (n : ℕ) → twice n ≡ 2 * n
twice_is zero = refl
twice_is (suc n) = omega (arith, twice_is n)

-- the bits of one more input
more : (n : ℕ) (cube : List Trit) (before after : List Bool) (p q : Trit) (a b : Bool)
    → slice_get cube (twice n) ≡ Some p → slice_get cube (suc (twice n)) ≡ Some q → Allows p a → Allows q b
    → length before ≡ n → length after ≡ n → AllowsBits (take (twice n) cube) before after
    → AllowsBits (take (suc (suc (twice n))) cube) (before ++ a ∷ []) (after ++ b ∷ [])
more zero [] before after p q a b first second allows also long wide h = none_not p first
more zero (c ∷ []) before after p q a b first second allows also long wide h = none_not q second
more zero (c ∷ d ∷ rest) [] [] p q a b first second allows also long wide h =
    (subst (λ t. Allows t a) (sym (some_is c p first)) allows, subst (λ t. Allows t b) (sym (some_is d q second)) also, tt)
more zero (c ∷ d ∷ rest) [] (y ∷ after) p q a b first second allows also long wide h = absurd (omega (arith, wide))
more zero (c ∷ d ∷ rest) (x ∷ before) after p q a b first second allows also long wide h = absurd (omega (arith, long))
more (suc n) [] before after p q a b first second allows also long wide h = none_not p first
more (suc n) (c ∷ []) before after p q a b first second allows also long wide h = none_not p first
more (suc n) (c ∷ d ∷ rest) [] after p q a b first second allows also long wide h = absurd (omega (arith, long))
more (suc n) (c ∷ d ∷ rest) (x ∷ before) [] p q a b first second allows also long wide h = absurd (omega (arith, wide))
more (suc n) (c ∷ d ∷ rest) (x ∷ before) (y ∷ after) p q a b first second allows also long wide h =
    (h.0, h.1, more n rest before after p q a b first second allows also (omega (arith, long)) (omega (arith, wide)) h.2)

known : (cube : List Trit) (i : ℕ) (p : Trit) → IsPoint cube → slice_get cube i ≡ Some p → p ≢ Free
known cube i p point is = at_place (λ trit. trit ≢ Free) cube i p (recursion_from_All _ cube point) is

pub record AreBits (cube : List Trit) (n : ℕ) (before after : List Bool) : Type 0 where
  pub first : length before ≡ n
  pub second : length after ≡ n
  pub allowed : AllowsBits (take (2 * n) cube) before after

pub no_bits : (cube : List Trit) → AreBits cube 0 [] []
no_bits cube = record { first = refl; second = refl; allowed = tt }

pub more_bits : (n : ℕ) (cube : List Trit) (before after befores afters : List Bool) (p q : Trit) (a b : Bool) → IsPoint cube
    → slice_get cube (2 * n) ≡ Some p → slice_get cube (2 * n + 1) ≡ Some q
    → (p ≢ Free → Allows p a) → (q ≢ Free → Allows q b) → befores ≡ before ++ a ∷ [] → afters ≡ after ++ b ∷ []
    → AreBits cube n before after → AreBits cube (n + 1) befores afters
more_bits n cube before after befores afters p q a b point first second allows also firsts seconds bits =
    let here : 2 * n ≡ twice n = sym (twice_is n) in
    let next : 2 * n + 1 ≡ suc (twice n) = omega (arith, twice_is n) in
    let end : suc (suc (twice n)) ≡ 2 * (n + 1) = omega (arith, twice_is n) in
    let grown = more n cube before after p q a b (ap (slice_get cube) (sym here) ∙ first) (ap (slice_get cube) (sym next) ∙ second)
    (allows (known cube (2 * n) p point first)) (also (known cube (2 * n + 1) q point second)) bits.first bits.second
    (subst (λ i. AllowsBits (take i cube) before after) here bits.allowed) in
    record {
      first = ap length firsts ∙ grown_length before a n bits.first;
      second = ap length seconds ∙ grown_length after b n bits.second;
      allowed = rw (firsts, seconds) (subst (λ i. AllowsBits (take i cube) (before ++ a ∷ []) (after ++ b ∷ [])) end grown);
    }
  where
    grown_length : (bits : List Bool) (bit : Bool) (n : ℕ) → length bits ≡ n → length (bits ++ bit ∷ []) ≡ n + 1
    grown_length [] bit n e = omega (arith, e)
    grown_length (x ∷ bits) bit n e = omega (arith, e, grown_length bits bit (length bits) refl)

pub whole : (cube : List Trit) (n : ℕ) (before after : List Bool) → length cube ≤ 2 * n → AreBits cube n before after → AllowsBits cube before after
whole cube n before after few bits = subst (λ trits. AllowsBits trits before after) (take_all (2 * n) cube few) bits.allowed

-- the only delay of a point's pairs
has : (given : Setting) (cube : List Trit) (pair : Pair) (delay asked : ℕ) → IsPoint cube → IsIn pair cube
    → ((other : ℕ) → IsDelayOfBits given pair.first pair.second other → other ≡ delay) → HasDelay given cube asked → delay ≡ asked
has given cube pair delay asked point is_in only h =
    let same = one_pair cube h.pair.first h.pair.second pair.first pair.second (recursion_from_All _ cube point) h.is_in is_in in
    sym (only asked (rw (same.0, same.1) at h.is))

pub has_delay : (given : Setting) (cube : List Trit) (pair : Pair) (delay asked : ℕ) → IsPoint cube → IsIn pair cube
    → IsDelayOfBits given pair.first pair.second delay
    → ((other : ℕ) → IsDelayOfBits given pair.first pair.second other → other ≡ delay) → (delay ≡ asked) ↔ HasDelay given cube asked
has_delay given cube pair delay asked point is_in is only =
    (λ e. record { pair = pair; is_in = is_in; is = rw e at is }, λ h. has given cube pair delay asked point is_in only h)

-- ---- what the code's tests say

-- the one number of which something holds was compared with another
pub is_asked : (P : ℕ → Type 0) (found asked : ℕ) → P found → ((other : ℕ) → P other → other ≡ found) → IsTrue (nat_eq found asked) ↔ P asked
is_asked P found asked is only = (λ same. subst P (eqb-true found asked same) is, λ holds. eq-eqb found asked (sym (only asked holds)))

pub reported_delay : (given : Setting) (cube : List Trit) (pair : Pair) (delay asked : ℕ) → IsPoint cube → IsIn pair cube
    → IsDelayOfBits given pair.first pair.second delay
    → ((other : ℕ) → IsDelayOfBits given pair.first pair.second other → other ≡ delay)
    → IsTrue (nat_eq delay asked) ↔ HasDelay given cube asked
reported_delay given cube pair delay asked point is_in is only =
    let one = has_delay given cube pair delay asked point is_in is only in
    (λ same. one.0 (eqb-true delay asked same), λ has. eq-eqb delay asked (one.1 has))
