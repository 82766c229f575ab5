-- Parts whose pins are parts of a cube, and what becomes of them where it is halved.
use Rattle.std.proofs.Common.{◌≡◌, ◌≢◌, ◌<◌, ℕ, suc, Bool, true, false, List, [], ◌∷◌, length, set, Some, Option, None, refl, sym, ap, subst, ◌∙◌, arith, cond, inl, inr}
use Rattle.std.specs.Prelude.{slice_get, filter, All, Contains}
use Rattle.std.proofs.lemmas.List.{length-set}
use Rattle.std.proofs.lemmas.List.Elements.{All-contains, All-nil, All-cons}
use Rattle.td_gates.proofs.Places.{All-from_contains, slice_get-Contains, slice_get-set_same, slice_get-set_other}
use Rattle.td_domain.specs.declared.cubes.Trit.{Trit}
use Rattle.td_domain.specs.declared.cubes.Trit.TheVariants.{Zero, One, Free}
use Rattle.td_certificate.specs.declared.certificate.Certificate.{Certificate}
use Rattle.td_join.specs.declared.parts.Part.{Part}
use Rattle.td_join.specs.Faults.{IsInside}
use Rattle.td_join.specs.Joining.{pins_of, is_zero, is_one, is_known}
use Rattle.td_join.specs.Steps.{certificate_of, certificates_of, IsPlaced, AreAllInside, zero_parts, one_parts, IsOwn, IsUncutIn}
use Rattle.td_join.proofs.Cubing.{same_trits, Contains-first, Contains-more, Contains-less}
use Rattle.td_join.proofs.Restricting.{order, same, apart, is_known_at}

-- ---- the two sides

part_of_side : (cube pins : List Trit) (position : ℕ) (bit : Trit) → position < length cube → slice_get pins position ≡ Some bit → IsInside cube pins
    → IsInside (set cube position bit) pins
part_of_side cube pins position bit within at part = record {
  fits = part.fits ∙ sym (length-set cube position bit);
  keeps = λ k t e known. elim (order k position) [
    | same i ↦
        let here : slice_get (set cube position bit) position ≡ Some t = subst (λ (n : ℕ). slice_get (set cube position bit) n ≡ Some t) i e in
        let reported : bit ≡ t = same_trits bit t (sym (slice_get-set_same cube position bit within) ∙ here) in
        subst (λ (n : ℕ). slice_get pins n ≡ Some t) (sym i) (subst (λ (x : Trit). slice_get pins position ≡ Some x) reported at)
    | apart differ ↦ part.keeps k t (sym (slice_get-set_other cube position bit k differ) ∙ e) known
  ];
}

module _ (cube : List Trit) (position : ℕ) (bit : Trit) (is : Option Trit → Bool) (sure : (o : Option Trit) → is o ≡ true → o ≡ Some bit)
    (within : position < length cube) where
  kept : (p : Part) (parts : List Part) (b : Bool) → is (slice_get (pins_of p.certificate) position) ≡ b → IsInside cube (pins_of p.certificate)
      → AreAllInside (set cube position bit) parts → AreAllInside (set cube position bit) (cond b (p ∷ parts) parts)
  kept p parts true e part rest =
      All-cons (λ q. IsInside (set cube position bit) (pins_of q.certificate)) p parts
      (part_of_side cube (pins_of p.certificate) position bit within (sure (slice_get (pins_of p.certificate) position) e) part) rest
  kept p parts false e part rest = rest

  side_within : (parts : List Part) → AreAllInside cube parts
      → AreAllInside (set cube position bit) (filter (λ p. is (slice_get (pins_of p.certificate) position)) parts)
  side_within [] all = All-nil (λ q. IsInside (set cube position bit) (pins_of q.certificate))
  side_within (p ∷ parts) all =
      kept p (filter (λ q. is (slice_get (pins_of q.certificate) position)) parts) (is (slice_get (pins_of p.certificate) position)) refl
      (All-contains (λ q. IsInside cube (pins_of q.certificate)) (p ∷ parts) p all (Contains-first p parts))
      (side_within parts (All-from_contains (λ q. IsInside cube (pins_of q.certificate)) parts
      (λ q has. All-contains (λ r. IsInside cube (pins_of r.certificate)) (p ∷ parts) q all (Contains-more p q parts has))))

surely_zero : (o : Option Trit) → is_zero o ≡ true → o ≡ Some Zero
surely_zero (Some Zero) e = refl
surely_zero (Some One) e = absurd cc
surely_zero (Some Free) e = absurd cc
surely_zero None e = absurd cc

surely_one : (o : Option Trit) → is_one o ≡ true → o ≡ Some One
surely_one (Some One) e = refl
surely_one (Some Zero) e = absurd cc
surely_one (Some Free) e = absurd cc
surely_one None e = absurd cc

pub zero_within : (cube : List Trit) (position : ℕ) (parts : List Part) → position < length cube → AreAllInside cube parts
    → AreAllInside (set cube position Zero) (zero_parts position parts)
zero_within cube position parts within all = side_within cube position Zero is_zero surely_zero within parts all

pub one_within : (cube : List Trit) (position : ℕ) (parts : List Part) → position < length cube → AreAllInside cube parts
    → AreAllInside (set cube position One) (one_parts position parts)
one_within cube position parts within all = side_within cube position One is_one surely_one within parts all

-- ---- a group that no position parts

same_trit : (p q : Trit) → ((t : Trit) → Some p ≡ Some t → t ≢ Free → Some q ≡ Some t) → (Some p ≡ Some Free → ¬ (is_known (Some q) ≡ true)) → q ≡ p
same_trit Zero q bits uncut = same_trits q Zero (bits Zero refl (λ e. absurd cc))
same_trit One q bits uncut = same_trits q One (bits One refl (λ e. absurd cc))
same_trit Free Zero bits uncut = absurd (uncut refl refl)
same_trit Free One bits uncut = absurd (uncut refl refl)
same_trit Free Free bits uncut = refl

-- pins that are a part of a cube, and known nowhere where it is free, are the cube
same_cube : (cube pins : List Trit) → IsInside cube pins
    → ((position : ℕ) → slice_get cube position ≡ Some Free → ¬ (is_known (slice_get pins position) ≡ true)) → pins ≡ cube
same_cube [] [] part uncut = refl
same_cube [] (q ∷ pins) part uncut = absurd (omega (arith, part.fits))
same_cube (p ∷ cube) [] part uncut = absurd (omega (arith, part.fits))
same_cube (p ∷ cube) (q ∷ pins) part uncut =
    ap (λ (t : Trit). t ∷ pins) (same_trit p q (part.keeps 0) (uncut 0))
    ∙ ap (λ (ts : List Trit). p ∷ ts)
    (same_cube cube pins (record { fits = omega (arith, part.fits); keeps = λ k. part.keeps (suc k) }) (λ k. uncut (suc k)))

pub two_parts : (cube : List Trit) (parts : List Part) → parts ≢ [] → (¬ IsOwn cube parts) → IsUncutIn cube parts → AreAllInside cube parts → 1 < length parts
two_parts cube [] some own uncut all = absurd (some refl)
two_parts cube (p ∷ []) some own uncut all =
    absurd (own (record {
      part = p;
      only = refl;
      pins = same_cube cube (pins_of p.certificate) (All-contains (λ q. IsInside cube (pins_of q.certificate)) (p ∷ []) p all (Contains-first p []))
          (λ position free known. uncut position free (All-cons (is_known_at position) p.certificate [] known (All-nil (is_known_at position))));
    }))
two_parts cube (p ∷ q ∷ parts) some own uncut all = omega arith

pub has_member : (parts : List Part) (p : Part) → Contains parts p → Contains (certificates_of parts) p.certificate
has_member [] p has = absurd (omega (arith, has.1))
has_member (q ∷ parts) p has = elim (Contains-less q p parts has) [
  | inl e ↦ (0, omega arith, ap certificate_of e)
  | inr later ↦ Contains-more q.certificate p.certificate (certificates_of parts) (has_member parts p later)
]

pub are_within : (cube : List Trit) (parts : List Part) → All (λ c. IsInside cube (pins_of c)) (certificates_of parts) → AreAllInside cube parts
are_within cube parts all = All-from_contains (λ p. IsInside cube (pins_of p.certificate)) parts
    (λ p has. All-contains (λ c. IsInside cube (pins_of c)) (certificates_of parts) p.certificate all (has_member parts p has))

-- a certificate of the parts stands among those that are joined, and its pins are a part of the
-- cube
pub member : (certificates : List Certificate) (cube : List Trit) (parts : List Part) → All (IsPlaced certificates) parts → AreAllInside cube parts
    → (c : Certificate) → Contains (certificates_of parts) c → Contains certificates c × IsInside cube (pins_of c)
member certificates cube parts placed all c has =
    let p = of_member parts c has in (
      subst (λ (x : Certificate). Contains certificates x) p.2
          (slice_get-Contains certificates p.0.place p.0.certificate (All-contains (IsPlaced certificates) parts p.0 placed p.1)),
      subst (λ (x : Certificate). IsInside cube (pins_of x)) p.2 (All-contains (λ q. IsInside cube (pins_of q.certificate)) parts p.0 all p.1),
    )
  where
    of_member : (parts : List Part) (c : Certificate) → Contains (certificates_of parts) c → (p : Part) × Contains parts p × (p.certificate ≡ c)
    of_member [] c has = absurd (omega (arith, has.1))
    of_member (p ∷ parts) c has = elim (Contains-less p.certificate c (certificates_of parts) has) [
      | inl e ↦ (p, Contains-first p parts, e)
      | inr later ↦ let deeper = of_member parts c later in (deeper.0, Contains-more p deeper.0 parts deeper.1, deeper.2)
    ]
