-- Cubes that are widened.
use Rattle.std.proofs.Common.{◌≡◌, ◌≢◌, ◌<◌, ◌≤◌, ◌+◌, inl, inr, subst, get_or, take_all, drop-cons, ℕ, zero, suc, List, [], ◌∷◌, ◌++◌, length, set, Some, take, drop, refl, sym, ap, ◌∙◌, arith}
use Rattle.std.specs.Prelude.{slice_get}
use Rattle.std.proofs.lemmas.List.{append-nil, drop_all}
use Rattle.std.proofs.lemmas.Option.{none-some}
use Rattle.td_domain.specs.declared.cubes.Trit.{Trit}
use Rattle.td_domain.specs.declared.cubes.Trit.TheVariants.{Zero, One, Free}
use Rattle.td_certificate.specs.declared.certificate.Certificate.{Certificate}
use Rattle.td_join.specs.Faults.{IsOutside, lengths, bits}
use Rattle.td_join.specs.Joining.{pins_of, widest, both, hull_from, hull}
use Rattle.td_join.proofs.Cubing.{same_trits}
use Rattle.td_join.proofs.Parting.{nat_cases}

widened_to : (cube other : List Trit) (i : ℕ) (s t : Trit) → slice_get cube i ≡ Some s → slice_get other i ≡ Some t
    → take (suc i) (set cube i (widest s t)) ++ both (drop (suc i) (set cube i (widest s t))) (drop (suc i) other)
    ≡ take i cube ++ both (drop i cube) (drop i other)
widened_to [] other i s t e f = absurd (none-some s e)
widened_to (x ∷ cube) [] i s t e f = absurd (none-some t f)
widened_to (x ∷ cube) (y ∷ other) zero s t e f =
    ap (λ (trit : Trit). trit ∷ both cube other) (ap (λ (trit : Trit). widest trit t) (sym (same_trits x s e)) ∙ ap (λ (trit : Trit). widest x trit) (sym (same_trits y t f)))
widened_to (x ∷ cube) (y ∷ other) (suc i) s t e f = ap (λ (trits : List Trit). x ∷ trits) (widened_to cube other i s t e f)

pub widened : (cube other next all : List Trit) (i : ℕ) (s t w : Trit) → slice_get cube i ≡ Some s → slice_get other i ≡ Some t
    → w ≡ widest s t → next ≡ set cube i w → take i cube ++ both (drop i cube) (drop i other) ≡ all
    → take (i + 1) next ++ both (drop (i + 1) next) (drop (i + 1) other) ≡ all
widened cube other next all i s t w e f is now before =
    let one : i + 1 ≡ suc i = omega arith in
    rw (now, is, one) (widened_to cube other i s t e f ∙ before)

pub all_widened : (cube other all : List Trit) (i : ℕ) → take i cube ++ both (drop i cube) (drop i other) ≡ all → length cube ≤ i → cube ≡ all
all_widened cube other all i e end =
    let none : drop i cube ≡ [] = drop_all i cube end in
    let whole : take i cube ≡ cube = take_all i cube end in
    let same : cube ++ [] ≡ all = rw (none, whole) at e in
    sym (append-nil cube) ∙ same

pub both_fits : (cube other : List Trit) → length cube ≡ length other → length (both cube other) ≡ length other
both_fits [] [] e = refl
both_fits [] (y ∷ other) e = absurd (omega (arith, e))
both_fits (x ∷ cube) [] e = absurd (omega (arith, e))
both_fits (x ∷ cube) (y ∷ other) e = omega (arith, both_fits cube other (omega (arith, e)))

both_same : (cube : List Trit) → both cube cube ≡ cube
both_same [] = refl
both_same (Zero ∷ cube) = ap (λ (trits : List Trit). Zero ∷ trits) (both_same cube)
both_same (One ∷ cube) = ap (λ (trits : List Trit). One ∷ trits) (both_same cube)
both_same (Free ∷ cube) = ap (λ (trits : List Trit). Free ∷ trits) (both_same cube)

-- one certificate more
pub more : (certificates : List Certificate) (i : ℕ) (c : Certificate) (cube next whole : List Trit) → i < length certificates → c ≡ get_or certificates i c
    → next ≡ both cube (pins_of c) → hull_from cube (drop i certificates) ≡ whole → hull_from next (drop (i + 1) certificates) ≡ whole
more certificates i c cube next whole less is now before =
    let one : i + 1 ≡ suc i = omega arith in
    let split : drop i certificates ≡ c ∷ drop (suc i) certificates =
    drop-cons certificates i c less ∙ ap (λ (d : Certificate). d ∷ drop (suc i) certificates) (sym is) in
    let unfolded : hull_from cube (c ∷ drop (suc i) certificates) ≡ whole = rw split at before in
    rw (now, one) unfolded

pub hull_of : (certificates : List Certificate) (first : Certificate) → slice_get certificates 0 ≡ Some first
    → hull_from (pins_of first) certificates ≡ hull certificates
hull_of [] first e = absurd (none-some first e)
hull_of (c ∷ certificates) first e =
    let same : c ≡ first = cc in
    ap (λ (d : Certificate). hull_from (both (pins_of d) (pins_of c)) certificates) (sym same)
    ∙ ap (λ (cube : List Trit). hull_from cube certificates) (both_same (pins_of c))

pub hull_at_end : (certificates : List Certificate) (first : Certificate) (i : ℕ) (cube : List Trit) → slice_get certificates 0 ≡ Some first
    → hull_from cube (drop i certificates) ≡ hull_from (pins_of first) certificates → length certificates ≤ i → cube ≡ hull certificates
hull_at_end certificates first i cube is before end =
    ap (λ (cs : List Certificate). hull_from cube cs) (sym (drop_all i certificates end)) ∙ before ∙ hull_of certificates first is

-- ---- pins that aren't kept

pub outside_at : (pins cube : List Trit) (position : ℕ) (p t : Trit) → slice_get pins position ≡ Some p → slice_get cube position ≡ Some t
    → p ≢ Free → t ≢ p → IsOutside pins cube
outside_at pins cube position p t pinned is known differ = bits position p pinned known (λ e. differ (same_trits t p (sym is ∙ e)))

pub outside_by_length : (pins cube : List Trit) → length cube ≢ length pins → IsOutside pins cube
outside_by_length pins cube differ = lengths differ

-- one position more at which the pins are kept
pub kept_more : (pins cube : List Trit) (n : ℕ) (p t : Trit)
    → ((k : ℕ) (s : Trit) → k < n → slice_get pins k ≡ Some s → s ≢ Free → slice_get cube k ≡ Some s)
    → slice_get pins n ≡ Some p → slice_get cube n ≡ Some t → (p ≢ Free → t ≡ p)
    → (k : ℕ) (s : Trit) → k < n + 1 → slice_get pins k ≡ Some s → s ≢ Free → slice_get cube k ≡ Some s
kept_more pins cube n p t before pinned is same k s less at known =
    elim (nat_cases k n (omega (arith, less))) [
      | inl below ↦ before k s below at known
      | inr e ↦
          let here : slice_get pins n ≡ Some s = subst (λ (i : ℕ). slice_get pins i ≡ Some s) e at in
          let one : s ≡ p = same_trits s p (sym here ∙ pinned) in
          let both : t ≡ s = same (λ f. known (one ∙ f)) ∙ sym one in
          subst (λ (i : ℕ). slice_get cube i ≡ Some s) (sym e) (subst (λ (x : Trit). slice_get cube n ≡ Some x) both is)
    ]
