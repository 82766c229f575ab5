-- Internal: the cubes that are still to come in a walk over a tree, read off one cube and the
-- positions that were split on the way.
use Rattle.std.specs.Prelude.{◌≡◌, ℕ, ◌<◌, List, [], ◌∷◌, ◌++◌, set, slice_get, Option, Some}
use Rattle.std.specs.List.{AllByRecursion}
use Rattle.td_domain.specs.declared.cubes.Trit.{Trit}
use Rattle.td_domain.specs.declared.cubes.Trit.TheVariants.{Zero, One, Free}

-- the other side of a split, where its zero side is the one with this trit
abbrev pub other_side : Option Trit → List Trit → ℕ → List (List Trit)
other_side (Some Zero) cube position = set cube position One ∷ []
other_side _ cube position = []

-- The cubes still to come after this one, where these positions were split, the last one first:
-- where a zero side stands its one side comes, and then what came after the split.
abbrev pub cubes_ahead : List Trit → List ℕ → List (List Trit)
cubes_ahead cube [] = []
cubes_ahead cube (position ∷ path) =
    other_side (slice_get cube position) cube position ++ cubes_ahead (set cube position Free) path

-- the first of the cubes still to come is this one, and the path leads to the others; nothing is
-- said where none is
abbrev pub StandsAt : List (List Trit) → List Trit → List ℕ → Type 0
StandsAt [] cube path = Unit {0}
StandsAt (next ∷ others) cube path = (cube ≡ next) × (cubes_ahead cube path ≡ others)

-- the positions exist in a cube of this length
abbrev pub AreInside : ℕ → List ℕ → Type 0
AreInside count path = AllByRecursion (λ position. position < count) path
