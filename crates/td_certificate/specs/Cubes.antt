-- The halves of a cube, and the way of a walk over a tree.
use Rattle.std.specs.Prelude.{ℕ, List, ◌∷◌, set, Option, Some, None}
use Rattle.td_domain.specs.declared.cubes.Trit.{Trit}
use Rattle.td_domain.specs.declared.cubes.Trit.TheVariants.{Zero, One}

-- the two halves of a cube at a free position
abbrev pub zero_side : List Trit → ℕ → List Trit
zero_side cube position = set cube position Zero

abbrev pub one_side : List Trit → ℕ → List Trit
one_side cube position = set cube position One

-- A walk over a tree's nodes has a place for each tree still to come. After a node that is split at
-- a position, the zero side of its place comes next, and then the one side, before the others.
abbrev pub past : {P : Type 0} → (P → ℕ → P) → (P → ℕ → P) → P → Option ℕ → List P → List P
past zero_of one_of place None others = others
past zero_of one_of place (Some position) others = zero_of place position ∷ one_of place position ∷ others

-- where the places are the cubes
abbrev pub cubes_past : List Trit → Option ℕ → List (List Trit) → List (List Trit)
cubes_past cube position cubes = past zero_side one_side cube position cubes
