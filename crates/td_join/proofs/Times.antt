-- The moments that a whole claims are the greatest of its parts', in whatever order they come.
use Rattle.std.proofs.Common.{◌≡◌, ◌<◌, ◌≤◌, ◌+◌, ℕ, List, Option, Some, None, length, take, get_or, refl, sym, ap, subst, ◌∙◌, arith}
use Rattle.std.specs.Prelude.{All, Contains, slice_get}
use Rattle.std.specs.List.Sorted.{IsPermutation}
use Rattle.td_gates.proofs.Places.{slice_get-get, get-slice_get, slice_get-Contains}
use Rattle.std.proofs.lemmas.List.Elements.{All-contains, All-more, All-weaker}
use Rattle.std.proofs.lemmas.List.Sorted.{Contains-permutation, All-permutation}
use Rattle.td_certificate.specs.declared.certificate.Certificate.{Certificate}
use Rattle.td_certificate.specs.declared.certificate.Claim.{Claim}
use Rattle.td_certificate.specs.Accepts.{high_of}
use Rattle.td_join.specs.Claims.{raised}
use Rattle.td_join.specs.Joining.{time_of, pair_of, IsNotAbove, IsWholeClaim, SameTime}

pub as_high : (x : Option ℕ) → IsNotAbove x x
as_high None = tt
as_high (Some x) = omega arith

pub not_above_through : (x y z : Option ℕ) → IsNotAbove x y → IsNotAbove y z → IsNotAbove x z
not_above_through None y z first second = tt
not_above_through (Some x) None z first second = absurd first
not_above_through (Some x) (Some y) None first second = absurd second
not_above_through (Some x) (Some y) (Some z) first second = omega (arith, first, second)

one_moment : (x y : Option ℕ) → IsNotAbove x y → IsNotAbove y x → x ≡ y
one_moment None None first second = refl
one_moment None (Some y) first second = absurd second
one_moment (Some x) None first second = absurd first
one_moment (Some x) (Some y) first second = ap (λ (n : ℕ). Some n) (omega (arith, first, second))

module _ (moment : Certificate → Option ℕ) where
  -- two greatest moments of the same certificates are one
  same_greatest : (these those : List Certificate) (mine yours : Certificate) (this that : Option ℕ) → IsPermutation these those
      → Contains these mine → Contains those yours → moment mine ≡ this → moment yours ≡ that
      → All (λ c. IsNotAbove (moment c) this) these → All (λ c. IsNotAbove (moment c) that) those → this ≡ that
  same_greatest these those mine yours this that moved has had this_is that_is most others =
      let low = All-contains (λ c. IsNotAbove (moment c) that) those mine others (Contains-permutation these those mine moved has) in
      let high = All-contains (λ c. IsNotAbove (moment c) this) those yours (All-permutation (λ c. IsNotAbove (moment c) this) these those moved most) had in
      one_moment this that (subst (λ (x : Option ℕ). IsNotAbove x that) this_is low) (subst (λ (x : Option ℕ). IsNotAbove x this) that_is high)

pub same_time : SameTime
same_time these those pins others this that moved one other = (
  same_greatest (λ c. time_of c.claim) these those one.claim.reached.certificate other.claim.reached.certificate (time_of this.claim) (time_of that.claim) moved
      one.claim.reached.among other.claim.reached.among one.claim.reached.time_is other.claim.reached.time_is one.claim.greatest other.claim.greatest,
  same_greatest (λ c. high_of c.claim) these those one.claim.bounded.certificate other.claim.bounded.certificate (high_of this.claim) (high_of that.claim) moved
      one.claim.bounded.among other.claim.bounded.among one.claim.bounded.high_is other.claim.bounded.high_is one.claim.highest other.claim.highest,
)

-- what holds of the certificates before a place and of the one there holds of those up to it
pub one_more : (P : Certificate → Type 0) (certificates : List Certificate) (place : ℕ) (x : Certificate) → place < length certificates → x ≡ get_or certificates place x
    → P x → All P (take place certificates) → All P (take (place + 1) certificates)
one_more P certificates place x less is has before = All-more P certificates place x less before (subst P is has)

-- ---- the greatest of some moments

module _ (moment : Certificate → Option ℕ) where
  -- the next one is greater
  pub newer : (certificates : List Certificate) (place old next : ℕ) (x y : Certificate) → place < length certificates → x ≡ get_or certificates place x
      → old < length certificates → y ≡ get_or certificates old y → IsNotAbove (moment y) (moment x)
      → ((w : Certificate) → slice_get certificates old ≡ Some w → All (λ c. IsNotAbove (moment c) (moment w)) (take place certificates)) → next ≡ place
      → (w : Certificate) → slice_get certificates next ≡ Some w → All (λ c. IsNotAbove (moment c) (moment w)) (take (place + 1) certificates)
  newer certificates place old next x y less is within was greater before now w stands =
      let here : slice_get certificates place ≡ Some w = subst (λ (n : ℕ). slice_get certificates n ≡ Some w) now stands in
      let same : x ≡ w = is ∙ slice_get-get certificates place w x here in
      let all = before y (get-slice_get certificates old y y within (sym was)) in
      let more : IsNotAbove (moment x) (moment w) = subst (λ (c : Certificate). IsNotAbove (moment x) (moment c)) same (as_high (moment x)) in
      let least : IsNotAbove (moment y) (moment w) = subst (λ (c : Certificate). IsNotAbove (moment y) (moment c)) same greater in
      one_more (λ c. IsNotAbove (moment c) (moment w)) certificates place x less is more
      (All-weaker (λ c. IsNotAbove (moment c) (moment y)) (λ c. IsNotAbove (moment c) (moment w)) (λ c h. not_above_through (moment c) (moment y) (moment w) h least) (take place certificates) all)

  -- it isn't
  pub older : (certificates : List Certificate) (place old next : ℕ) (x y : Certificate) → place < length certificates → x ≡ get_or certificates place x
      → y ≡ get_or certificates old y → IsNotAbove (moment x) (moment y)
      → ((w : Certificate) → slice_get certificates old ≡ Some w → All (λ c. IsNotAbove (moment c) (moment w)) (take place certificates)) → next ≡ old
      → (w : Certificate) → slice_get certificates next ≡ Some w → All (λ c. IsNotAbove (moment c) (moment w)) (take (place + 1) certificates)
  older certificates place old next x y less is was few before now w stands =
      let here : slice_get certificates old ≡ Some w = subst (λ (n : ℕ). slice_get certificates n ≡ Some w) now stands in
      let same : y ≡ w = was ∙ slice_get-get certificates old w y here in
      one_more (λ c. IsNotAbove (moment c) (moment w)) certificates place x less is
      (subst (λ (c : Certificate). IsNotAbove (moment x) (moment c)) same few) (before w here)

-- ---- the claim with the other high

pub raised_time : (late high : Option Claim) → time_of (raised late high) ≡ time_of late
raised_time None high = refl
raised_time (Some late) high = refl

pub raised_pair : (late high : Option Claim) → pair_of (raised late high) ≡ pair_of late
raised_pair None high = refl
raised_pair (Some late) high = refl

-- where there are both, or neither
pub raised_high : (late high : Option Claim) → IsNotAbove (time_of high) (time_of late) → IsNotAbove (high_of late) (high_of high)
    → high_of (raised late high) ≡ high_of high
raised_high None None few least = refl
raised_high None (Some high) few least = absurd few
raised_high (Some late) None few least = absurd least
raised_high (Some late) (Some high) few least = refl

pub whole_claim : (certificates : List Certificate) (late high : Certificate) (at on : ℕ) (claim : Option Claim) → slice_get certificates at ≡ Some late
    → slice_get certificates on ≡ Some high → All (λ c. IsNotAbove (time_of c.claim) (time_of late.claim)) certificates
    → All (λ c. IsNotAbove (high_of c.claim) (high_of high.claim)) certificates → claim ≡ raised late.claim high.claim → IsWholeClaim certificates claim
whole_claim certificates late high at on claim stands lies greatest highest is =
    let here = slice_get-Contains certificates at late stands in
    let there = slice_get-Contains certificates on high lies in
    let time = raised_time late.claim high.claim in
    let top = raised_high late.claim high.claim
    (All-contains (λ c. IsNotAbove (time_of c.claim) (time_of late.claim)) certificates high greatest there)
    (All-contains (λ c. IsNotAbove (high_of c.claim) (high_of high.claim)) certificates late highest here) in
    subst (λ (it : Option Claim). IsWholeClaim certificates it) (sym is) (record {
      greatest = subst (λ (x : Option ℕ). All (λ c. IsNotAbove (time_of c.claim) x) certificates) (sym time) greatest;
      reached = record { certificate = late; among = here; time_is = sym time; pair_is = sym (raised_pair late.claim high.claim) };
      highest = subst (λ (x : Option ℕ). All (λ c. IsNotAbove (high_of c.claim) x) certificates) (sym top) highest;
      bounded = record { certificate = high; among = there; high_is = sym top };
    })
