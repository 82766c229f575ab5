-- Certificates whose texts are within the limit.
use Rattle.std.specs.Prelude.{◌≡◌, false, ℕ, ◌<◌, ◌≤◌, ◌^◌, List, [], ◌∷◌, length, Option, Some, None}
use Rattle.std.specs.List.{AllByRecursion}
use Rattle.td_certificate.specs.declared.tree.Node.{Node}
use Rattle.td_certificate.specs.declared.tree.Node.TheVariants as node
use Rattle.td_certificate.specs.declared.certificate.Certificate.{Certificate}
use Rattle.td_certificate.specs.declared.certificate.Claim.{Claim}
use Rattle.td_certificate.specs.Questions.{Terms}
use Rattle.td_certificate.specs.Trees.{has_edges, has_refuted}
use Rattle.td_certificate.specs.Spelling.{AreTerms, HasSpelling, spelling}
use Rattle.td_certificate.specs.Steps.{Refuted, steps_text}
use Rattle.td_certificate.specs.Faults.{IsWithinLimit}

-- the node has one line, and its number is below 10 ^ 15
abbrev pub IsShort : Node → Type 0
IsShort (node.Split position) = position < 10 ^ 15
IsShort (node.Bound domain bound) = bound < 10 ^ 15
IsShort (node.Point time) = time < 10 ^ 15
IsShort node.Empty = Unit {0}
IsShort (node.Refuted refuted) = ⊥

-- the moments of a claim are below 10 ^ 15
abbrev pub IsShortClaim : Option Claim → Type 0
IsShortClaim None = Unit {0}
IsShortClaim (Some claim) = (claim.time < 10 ^ 15) × (claim.high < 10 ^ 15)

-- the question names at most 10,000 outputs, and at most 5,000 conditions
abbrev pub AreFew : Option (List ℕ) → Type 0
AreFew None = Unit {0}
AreFew (Some numbers) = length numbers ≤ 10000

abbrev pub HaveFew : Option Terms → Type 0
HaveFew None = Unit {0}
HaveFew (Some terms) = AreFew terms.outputs × (length terms.keep ≤ 5000)

-- A text with these terms, which have no condition, can tell the tree: without any, no leaf is bounded
-- by edges or refuted.
abbrev pub CanTell : List Node → Option Terms → Type 0
CanTell tree None = (has_edges tree ≡ false) × (has_refuted tree ≡ false)
CanTell tree (Some terms) = AreTerms (Some terms) × HaveFew (Some terms) × (terms.keep ≡ [])

-- A tree of at most 10,000,000 lines with numbers below 10 ^ 15, as a search gives, has a text
-- within the limit.
abbrev pub SearchedTextsFit : Type 0
SearchedTextsFit = (c : Certificate) → HasSpelling c → HaveFew c.question.terms → IsShortClaim c.claim → AllByRecursion IsShort c.tree → length c.tree ≤ 10000000
    → IsWithinLimit (spelling c)

-- A tree of one leaf whose steps have at most 268,000,000 bytes, as a search by refutation gives,
-- has a text within the limit.
abbrev pub RefutedTextsFit : Type 0
RefutedTextsFit = (c : Certificate) (refuted : Refuted) → HasSpelling c → HaveFew c.question.terms → IsShortClaim c.claim → c.tree ≡ node.Refuted refuted ∷ []
    → length (steps_text refuted.steps) ≤ 268000000 → IsWithinLimit (spelling c)
