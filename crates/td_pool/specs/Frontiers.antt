-- The leaves that are left of a search, with their bounds.
use Rattle.std.specs.Prelude.{◌≡◌, ◌⊎◌, ℕ, ◌+◌, ◌≤◌, List, [], ◌∷◌, ◌++◌, map, take, drop, slice_get, Some}
use Rattle.std.specs.List.{AllByRecursion}
use Rattle.td_domain.specs.declared.cubes.Trit.{Trit}
use Rattle.td_certificate.specs.Cubes.{zero_side, one_side}
use Rattle.td_domain.specs.Pairs.{Pair}
use Rattle.td_domain.specs.Cubes.{IsIn}
use Rattle.td_search.specs.declared.findings.Evidence.{Evidence}
use Rattle.td_search.specs.declared.findings.Finding.{Finding}
use Rattle.td_search.specs.declared.findings.Finding.TheVariants.{Closed, Split}
use Rattle.td_search.specs.Problems.{Problem, has_delay}
use Rattle.td_pool.specs.declared.leaf.OpenLeaf.{OpenLeaf}

-- the bound of the leaf is no greater than this figure, if the pair lies in it
abbrev pub IsWithin : Pair → ℕ → OpenLeaf → Type 0
IsWithin pair top leaf = IsIn pair leaf.cube → leaf.bound ≤ top

-- A pair's delay is no greater than `closed` or than the bound of a leaf in which the pair lies: a
-- figure that is no less than these is no less than the delay.
abbrev pub IsCover : Problem → ℕ → List OpenLeaf → Type 0
IsCover asked closed leaves = (pair : Pair) (delay top : ℕ) → has_delay asked pair delay → closed ≤ top → AllByRecursion (IsWithin pair top) leaves → delay ≤ top

-- a leaf with this cube
abbrev pub leaf_of : ℕ → List Trit → ℕ → OpenLeaf
leaf_of number cube bound = record { number = number; cube = cube; bound = bound }

-- the sides of the leaf stand in its place, the one side first, with this bound
abbrev pub IsSplit : List OpenLeaf → OpenLeaf → ℕ → ℕ → List OpenLeaf → Type 0
IsSplit rest leaf position bound leaves = (zero_number one_number : ℕ)
    × (leaves ≡ (rest ++ leaf_of one_number (one_side leaf.cube position) bound ∷ []) ++ leaf_of zero_number (zero_side leaf.cube position) bound ∷ [])

-- the leaf after these was closed or split, as it was found of its cube
abbrev pub IsLeafSettled : List OpenLeaf → OpenLeaf → Finding → List OpenLeaf → Type 0
IsLeafSettled rest leaf (Closed mark bound) leaves = leaves ≡ rest
IsLeafSettled rest leaf (Split position bound delay) leaves = IsSplit rest leaf position bound leaves

-- these were found one after another, each of the leaf that was the last one then
abbrev pub AreSettled : List OpenLeaf → List Finding → List OpenLeaf → Type 0
AreSettled before [] after = after ≡ before
AreSettled before (finding ∷ findings) after = (rest : List OpenLeaf) × (leaf : OpenLeaf) × (middle : List OpenLeaf)
    × (before ≡ rest ++ leaf ∷ []) × IsLeafSettled rest leaf finding middle × AreSettled middle findings after

-- the evidence begins at this leaf
abbrev pub BeginsAt : Evidence → OpenLeaf → Type 0
BeginsAt evidence leaf = (leaf.number ≡ evidence.number) × (leaf.cube ≡ evidence.cube)

-- A leaf at which the evidence begins was taken out, and what the evidence leaves below it stands
-- after the others.
pub record IsGrafted (before : List OpenLeaf) (evidence : Evidence) (after : List OpenLeaf) : Type 0 where
  pub place : ℕ
  pub leaf : OpenLeaf
  pub at : slice_get before place ≡ Some leaf
  pub begins : BeginsAt evidence leaf
  pub settled : AreSettled ((take place before ++ drop (place + 1) before) ++ leaf ∷ []) evidence.findings.items after

-- as the evidence says, where it begins at one of these leaves, else as before
abbrev pub AreReportedOf : List OpenLeaf → Evidence → List OpenLeaf → Type 0
AreReportedOf before evidence after = IsGrafted before evidence after
    ⊎ (((place : ℕ) (leaf : OpenLeaf) → slice_get before place ≡ Some leaf → ¬ BeginsAt evidence leaf) × (after ≡ before))

abbrev pub bounds_of : List OpenLeaf → List ℕ
bounds_of leaves = map (λ leaf. leaf.bound) leaves
