-- Parts, their certificates, and the two sides of a group.
use Rattle.std.proofs.Common.{◌≤◌, ◌+◌, ◌⊎◌, ◌≡◌, ◌<◌, ℕ, Bool, true, false, List, [], ◌∷◌, ◌++◌, length, Some, refl, sym, ap, subst, ◌∙◌, arith, inl, inr, ◌&&◌}
use Rattle.std.proofs.Math.Nat.{eq-or-lt_of_le}
use Rattle.std.specs.Prelude.{slice_get, All}
use Rattle.std.specs.List.{list_all}
use Rattle.std.proofs.lemmas.List.{length-append}
use Rattle.std.proofs.lemmas.List.Elements.{All-from_recursion, recursion_from_All, All-push, All-weaker}
use Rattle.std.proofs.lemmas.List.Quantifiers.{all_pairs_push}
use Rattle.std.specs.List.{AllByRecursion}
use denote.Enum.Bare.{sameb}
use Rattle.td_domain.specs.contracts.cubes.Trit.{the_type}
use Rattle.td_domain.specs.declared.cubes.Trit.{Trit}
use Rattle.td_domain.specs.declared.cubes.Trit.TheVariants.{Zero, One, Free}
use Rattle.td_certificate.specs.declared.certificate.Certificate.{Certificate}
use Rattle.td_join.specs.declared.parts.Part.{Part}
use Rattle.td_join.specs.Joining.{pins_of, is_known, AreKnownAt}
use Rattle.td_join.specs.Steps.{certificates_of, IsPlaced, AreInOrder}

pub nat_cases : (k n : ℕ) → k ≤ n → (k < n) ⊎ (k ≡ n)
nat_cases k n l = elim (eq-or-lt_of_le {n = k} {m = n} l) [
  | inl e ↦ inr e
  | inr less ↦ inl less
]

-- ---- known positions

abbrev known_at : ℕ → Part → Bool
known_at position p = is_known (slice_get (pins_of p.certificate) position)

more_known : (b rest : Bool) (P : Type 0) → (rest ≡ true → P) → (b && rest) ≡ true → (b ≡ true) × P
more_known true rest P go h = (refl, go h)
more_known false rest P go h = absurd cc

all_known : (position : ℕ) (parts : List Part) → list_all (known_at position) parts ≡ true
    → AllByRecursion (λ c. is_known (slice_get (pins_of c) position) ≡ true) (certificates_of parts)
all_known position [] h = tt
all_known position (p ∷ parts) h = more_known (known_at position p) (list_all (known_at position) parts) _ (all_known position parts) h

pub are_known : (position : ℕ) (parts : List Part) → list_all (known_at position) parts ≡ true → AreKnownAt position (certificates_of parts)
are_known position parts h = All-from_recursion _ (certificates_of parts) (all_known position parts h)

known_all : (position : ℕ) (parts : List Part) → AllByRecursion (λ c. is_known (slice_get (pins_of c) position) ≡ true) (certificates_of parts)
    → list_all (known_at position) parts ≡ true
known_all position [] h = refl
known_all position (p ∷ parts) h = rw h.0 (known_all position parts h.1)

pub are_not_known : (position : ℕ) (parts : List Part) → list_all (known_at position) parts ≡ false → ¬ AreKnownAt position (certificates_of parts)
are_not_known position parts h known =
    let e = known_all position parts (recursion_from_All _ (certificates_of parts) known) in
    let both : true ≡ false = sym e ∙ h in cc

-- the least positions up to one more don't halve a group
pub uncut_more : (P Q : ℕ → Type 0) (n : ℕ) → ((k : ℕ) → k < n → P k → ¬ Q k) → (P n → ¬ Q n) → (k : ℕ) → k < n + 1 → P k → ¬ Q k
uncut_more P Q n below at k less p q =
    elim (nat_cases k n (omega (arith, less))) [
      | inl l ↦ below k l p q
      | inr e ↦ at (subst P e p) (subst Q e q)
    ]

-- ---- numbered parts

certificates_snoc : (parts : List Part) (p : Part) (rest : List Certificate) → certificates_of (parts ++ p ∷ []) ++ rest ≡ certificates_of parts ++ p.certificate ∷ rest
certificates_snoc [] p rest = refl
certificates_snoc (q ∷ parts) p rest = ap (λ (cs : List Certificate). q.certificate ∷ cs) (certificates_snoc parts p rest)

pub one_more : (parts : List Part) (p : Part) (rest all : List Certificate) → certificates_of parts ++ p.certificate ∷ rest ≡ all
    → certificates_of (parts ++ p ∷ []) ++ rest ≡ all
one_more parts p rest all e = certificates_snoc parts p rest ∙ e

stands : (parts : List Part) (c : Certificate) (rest : List Certificate) → slice_get (certificates_of parts ++ c ∷ rest) (length parts) ≡ Some c
stands [] c rest = refl
stands (p ∷ parts) c rest = stands parts c rest

pub placed_more : (parts : List Part) (p : Part) (rest all : List Certificate) → certificates_of parts ++ p.certificate ∷ rest ≡ all
    → p.place ≡ length parts → All (IsPlaced all) parts → All (IsPlaced all) (parts ++ p ∷ [])
placed_more parts p rest all e place placed =
    All-push (IsPlaced all) parts p placed (rw (place, sym e) (stands parts p.certificate rest))

pub order_more : (parts : List Part) (p : Part) → p.place ≡ length parts → All (λ q. q.place < length parts) parts → AreInOrder parts
    → AreInOrder (parts ++ p ∷ [])
order_more parts p place below order =
    all_pairs_push (λ q r. q.place < r.place) parts p order
    (subst (λ (n : ℕ). All (λ q. q.place < n) parts) (sym place) below)

pub below_more : (parts : List Part) (p : Part) → p.place ≡ length parts → All (λ q. q.place < length parts) parts
    → All (λ q. q.place < length (parts ++ p ∷ [])) (parts ++ p ∷ [])
below_more parts p place below =
    let more : length (parts ++ p ∷ []) ≡ length parts + 1 = length-append parts (p ∷ []) in
    All-push (λ q. q.place < length (parts ++ p ∷ [])) parts p
    (All-weaker (λ q. q.place < length parts) (λ q. q.place < length (parts ++ p ∷ [])) (λ q less. omega (arith, less, more)) parts below)
    (omega (arith, place, more))

-- ---- the test whether a trit is free

pub free_at : (cube : List Trit) (position : ℕ) (t : Trit) → slice_get cube position ≡ Some t → sameb the_type t Free ≡ true → slice_get cube position ≡ Some Free
free_at cube position Free is same = is
free_at cube position Zero is same = absurd cc
free_at cube position One is same = absurd cc

same_trit : (this that : Trit) → Some this ≡ Some that → this ≡ that
same_trit this that e = cc

pub not_free_at : (cube : List Trit) (position : ℕ) (t : Trit) → slice_get cube position ≡ Some t → sameb the_type t Free ≡ false → ¬ (slice_get cube position ≡ Some Free)
not_free_at cube position t is same free = go t same (same_trit t Free (sym is ∙ free)) where
  go : (t : Trit) → sameb the_type t Free ≡ false → ¬ (t ≡ Free)
  go Free same e = absurd cc
  go Zero same e = absurd cc
  go One same e = absurd cc
