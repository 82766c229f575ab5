-- Certificates that can be joined can be halved at each position that is free in the cube and known
-- in all of them.
use Rattle.std.proofs.Common.{◌≡◌, ◌≢◌, ℕ, Bool, true, List, [], ◌∷◌, ◌++◌, set, Some, Option, refl, sym, ap, subst, ◌∙◌, arith, inl, inr}
use Rattle.std.specs.Prelude.{slice_get, filter}
use Rattle.std.proofs.lemmas.Bool.{cases_order}
use Rattle.std.proofs.lemmas.List.Elements.{All-filter, All-contains}
use Rattle.td_gates.proofs.Places.{slice_get-set_other}
use Rattle.td_domain.specs.declared.cubes.Trit.{Trit}
use Rattle.td_domain.specs.declared.cubes.Trit.TheVariants.{Zero, One, Free}
use Rattle.td_domain.specs.Admits.{Admitted, HasAdmitted}
use Rattle.td_certificate.specs.declared.tree.Node.{Node}
use Rattle.td_certificate.specs.declared.tree.Node.TheVariants as node
use Rattle.td_certificate.specs.declared.certificate.Certificate.{Certificate}
use Rattle.td_join.specs.Joining.{pins_of, is_zero, is_one, is_known, zeros, ones, AreKnownAt, AreJoined, alone, missing, halved}
use Rattle.td_join.specs.Steps.{IsJoinable}
use Rattle.td_certificate.proofs.Acceptance as accepting
use Rattle.td_join.proofs.Cubing.{wider, set_apart, filter_apart}

pub data Order (p q : ℕ) : Type 0 where
  same : p ≡ q → Order p q
  apart : p ≢ q → Order p q

pub order : (p q : ℕ) → Order p q
order p q = elim (cases_order p q) [
  | inl e ↦ same e
  | inr other ↦ elim other [
    | inl less ↦ apart (λ e. omega (arith, less, e))
    | inr more ↦ apart (λ e. omega (arith, more, e))
  ]
]

abbrev pub is_known_at : ℕ → Certificate → Type 0
is_known_at position c = is_known (slice_get (pins_of c) position) ≡ true

-- a position that is known in a certificate isn't free there
known_not_free : (o : Option Trit) → o ≡ Some Free → ¬ (is_known o ≡ true)
known_not_free o e k = let f = rw e at k in cc

empty_side : (t : Trit) (admit : Admitted) (cube : List Trit) (position : ℕ) → slice_get cube position ≡ Some Free → (¬ HasAdmitted admit cube)
    → ¬ HasAdmitted admit (set cube position t)
empty_side t admit cube position free none has = none (has.0, has.1, wider t cube position has.0.first has.0.second free has.2)

full_side : (admit : Admitted) (cube : List Trit) (position : ℕ) → slice_get cube position ≡ Some Free → (¬ HasAdmitted admit (set cube position Zero))
    → (¬ HasAdmitted admit (set cube position One)) → ¬ HasAdmitted admit cube
full_side admit cube position free zero one has = elim (accepting.side cube position has.0.first has.0.second free has.2) [
  | accepting.low inside ↦ zero (has.0, has.1, inside)
  | accepting.high inside ↦ one (has.0, has.1, inside)
]

-- where no certificate is joined, no admitted pair lies in the cube
none_admitted : (admit : Admitted) (cube : List Trit) (certificates : List Certificate) (tree : List Node) → AreJoined admit cube certificates tree
    → certificates ≡ [] → ¬ HasAdmitted admit cube
none_admitted admit _ _ _ (alone c) e = absurd cc
none_admitted admit _ _ _ (missing cube none) e = none
none_admitted admit _ _ _ (halved cube certificates q low high some free known lows highs) e = absurd (some e)

-- `bit` is the trit of one side, and `is` its test
module _ (admit : Admitted) (bit : Trit) (is : Option Trit → Bool) where
  abbrev kept : ℕ → List Certificate → List Certificate
  kept position certificates = filter (λ c. is (slice_get (pins_of c) position)) certificates

  -- a split elsewhere is one of the half too, where a certificate lies in that
  pub halved_apart : (cube : List Trit) (certificates : List Certificate) (p q : ℕ) → p ≢ q → slice_get cube q ≡ Some Free → AreKnownAt q certificates
      → IsJoinable admit (set (set cube q Zero) p bit) (kept p (zeros q certificates))
      → IsJoinable admit (set (set cube q One) p bit) (kept p (ones q certificates))
      → IsJoinable admit (set cube p bit) (kept p certificates)
  halved_apart cube certificates p q differ free known low high = go (kept p certificates) refl where
    go : (those : List Certificate) → kept p certificates ≡ those → IsJoinable admit (set cube p bit) (kept p certificates)
    go [] e = (
      node.Empty ∷ [],
      subst (λ (cs : List Certificate). AreJoined admit (set cube p bit) cs (node.Empty ∷ [])) (sym e)
          (missing (set cube p bit) (full_side admit (set cube p bit) q (slice_get-set_other cube p bit q (λ f. differ (sym f)) ∙ free)
          (subst (λ (x : List Trit). ¬ HasAdmitted admit x) (set_apart cube q p Zero bit (λ f. differ (sym f)))
          (none_admitted admit (set (set cube q Zero) p bit) (kept p (zeros q certificates)) low.0 low.1
          (filter_apart (λ c. is (slice_get (pins_of c) p)) (λ c. is_zero (slice_get (pins_of c) q)) certificates ∙ ap (λ (cs : List Certificate). zeros q cs) e)))
          (subst (λ (x : List Trit). ¬ HasAdmitted admit x) (set_apart cube q p One bit (λ f. differ (sym f)))
          (none_admitted admit (set (set cube q One) p bit) (kept p (ones q certificates)) high.0 high.1
          (filter_apart (λ c. is (slice_get (pins_of c) p)) (λ c. is_one (slice_get (pins_of c) q)) certificates ∙ ap (λ (cs : List Certificate). ones q cs) e))))),
    )
    go (d ∷ those) e = (
      node.Split q ∷ (low.0 ++ high.0),
      halved (set cube p bit) (kept p certificates) q low.0 high.0 (λ none. let f : d ∷ those ≡ [] = sym e ∙ none in absurd cc)
          (slice_get-set_other cube p bit q (λ e. differ (sym e)) ∙ free)
          (All-filter (λ c. is (slice_get (pins_of c) p)) (is_known_at q) certificates known)
          (subst (λ (x : List Trit). AreJoined admit x (zeros q (kept p certificates)) low.0) (set_apart cube q p Zero bit (λ e. differ (sym e)))
          (subst (λ (cs : List Certificate). AreJoined admit (set (set cube q Zero) p bit) cs low.0)
          (filter_apart (λ c. is (slice_get (pins_of c) p)) (λ c. is_zero (slice_get (pins_of c) q)) certificates) low.1))
          (subst (λ (x : List Trit). AreJoined admit x (ones q (kept p certificates)) high.0) (set_apart cube q p One bit (λ e. differ (sym e)))
          (subst (λ (cs : List Certificate). AreJoined admit (set (set cube q One) p bit) cs high.0)
          (filter_apart (λ c. is (slice_get (pins_of c) p)) (λ c. is_one (slice_get (pins_of c) q)) certificates) high.1)),
    )

pub zero_joinable : (admit : Admitted) (cube : List Trit) (certificates : List Certificate) (tree : List Node) → AreJoined admit cube certificates tree
    → (p : ℕ) → slice_get cube p ≡ Some Free → AreKnownAt p certificates → IsJoinable admit (set cube p Zero) (zeros p certificates)
zero_joinable admit _ _ _ (alone c) p free known =
    absurd (known_not_free (slice_get (pins_of c) p) free (All-contains (is_known_at p) (c ∷ []) c known (0, omega arith, refl)))
zero_joinable admit _ _ _ (missing cube none) p free known = (node.Empty ∷ [], missing (set cube p Zero) (empty_side Zero admit cube p free none))
zero_joinable admit _ _ _ (halved cube certificates q low high some free_q known_q lows highs) p free known = elim (order p q) [
  | same e ↦ (low, subst (λ (n : ℕ). AreJoined admit (set cube n Zero) (zeros n certificates) low) (sym e) lows)
  | apart differ ↦
      halved_apart admit Zero is_zero cube certificates p q differ free_q known_q
      (zero_joinable admit _ _ low lows p (slice_get-set_other cube q Zero p differ ∙ free) (All-filter (λ c. is_zero (slice_get (pins_of c) q)) (is_known_at p) certificates known))
      (zero_joinable admit _ _ high highs p (slice_get-set_other cube q One p differ ∙ free) (All-filter (λ c. is_one (slice_get (pins_of c) q)) (is_known_at p) certificates known))
]

pub one_joinable : (admit : Admitted) (cube : List Trit) (certificates : List Certificate) (tree : List Node) → AreJoined admit cube certificates tree
    → (p : ℕ) → slice_get cube p ≡ Some Free → AreKnownAt p certificates → IsJoinable admit (set cube p One) (ones p certificates)
one_joinable admit _ _ _ (alone c) p free known =
    absurd (known_not_free (slice_get (pins_of c) p) free (All-contains (is_known_at p) (c ∷ []) c known (0, omega arith, refl)))
one_joinable admit _ _ _ (missing cube none) p free known = (node.Empty ∷ [], missing (set cube p One) (empty_side One admit cube p free none))
one_joinable admit _ _ _ (halved cube certificates q low high some free_q known_q lows highs) p free known = elim (order p q) [
  | same e ↦ (high, subst (λ (n : ℕ). AreJoined admit (set cube n One) (ones n certificates) high) (sym e) highs)
  | apart differ ↦
      halved_apart admit One is_one cube certificates p q differ free_q known_q
      (one_joinable admit _ _ low lows p (slice_get-set_other cube q Zero p differ ∙ free) (All-filter (λ c. is_zero (slice_get (pins_of c) q)) (is_known_at p) certificates known))
      (one_joinable admit _ _ high highs p (slice_get-set_other cube q One p differ ∙ free) (All-filter (λ c. is_one (slice_get (pins_of c) q)) (is_known_at p) certificates known))
]
