-- What a text can tell by its terms.
use Rattle.std.proofs.Common.{◌≡◌, ◌≢◌, ℕ, ◌≤◌, false, true, List, ◌∷◌, Option, Some, None, refl, sym, subst, ◌∙◌}
use Rattle.td_domain.specs.Admits.{Admitted}
use Rattle.td_certificate.specs.declared.question.Version.{Version}
use Rattle.td_certificate.specs.declared.question.Version.TheVariants.{First, Second, Third, Fourth}
use Rattle.td_certificate.specs.declared.tree.Node.{Node}
use Rattle.td_certificate.specs.Questions.{Terms, version_by}
use Rattle.td_certificate.specs.Trees.{names_edges, has_edges, is_refuted, has_refuted}
use Rattle.td_certificate.specs.Lengths.{HaveFew, CanTell}
use Rattle.td_certificate.specs.Spelling.{greatest, AreTerms, IsHigh}
use Rattle.td_certificate.proofs.VectorCodes.{cases}

-- a tree that a text of an early version tells has no leaf that is bounded by edges
pub no_edges : (terms : Option Terms) (tree : List Node) (admit : Admitted) (moments : List ℕ) → CanTell tree terms
    → version_by terms admit moments ≢ Fourth → has_edges tree ≡ false
no_edges None tree admit moments can other = can.0
no_edges (Some terms) tree admit moments can other = absurd (other refl)

-- one that has a refuted leaf is told by the fourth
pub is_fourth : (terms : Option Terms) (tree : List Node) (admit : Admitted) (moments : List ℕ) → CanTell tree terms → has_refuted tree ≡ true
    → version_by terms admit moments ≡ Fourth
is_fourth None tree admit moments can refuted = absurd (let e : true ≡ false = sym refuted ∙ can.1 in cc)
is_fourth (Some terms) tree admit moments can refuted = refl

-- none of the nodes is bounded by edges
pub edges_parts : (n : Node) (nodes : List Node) → has_edges (n ∷ nodes) ≡ false → (names_edges n ≡ false) × (has_edges nodes ≡ false)
edges_parts n nodes none = cases (names_edges n) (λ h. absurd (let e : has_edges (n ∷ nodes) ≡ true = rw h refl in cc)) (λ h. (h, rw h at none))

pub are_terms : (terms : Option Terms) (tree : List Node) → CanTell tree terms → AreTerms terms
are_terms None tree can = tt
are_terms (Some terms) tree can = can.0

pub have_few : (terms : Option Terms) (tree : List Node) → CanTell tree terms → HaveFew terms
have_few None tree can = tt
have_few (Some terms) tree can = can.1

-- the time alone is told in each version
pub one_moment : (v : Version) (time high : ℕ) → high ≡ time → time ≤ greatest → IsHigh v time high
one_moment First time high same le = same
one_moment Second time high same le = same
one_moment Third time high same le = same
one_moment Fourth time high same le = subst (λ (n : ℕ). n ≤ greatest) (sym same) le
