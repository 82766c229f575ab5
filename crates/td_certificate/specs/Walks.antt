-- The lines of a tree and their cubes, by one walk over the list of its nodes.
use Rattle.std.specs.Prelude.{ℕ, List, [], ◌∷◌, Option, Some, None}
use Rattle.td_domain.specs.declared.cubes.Trit.{Trit}
use Rattle.td_certificate.specs.declared.tree.Node.{Node}
use Rattle.td_certificate.specs.declared.tree.Node.TheVariants as node
use Rattle.td_certificate.specs.Cubes.{cubes_past}

-- the position at which a node splits, if it does
abbrev pub position_of : Node → Option ℕ
position_of (node.Split position) = Some position
position_of _ = None

-- a node and its cube
pub record Line : Type 0 where
  pub cube : List Trit
  pub node : Node

-- The lines of these nodes, where the trees still to come have these cubes: on the zero side of a
-- split its position is 0, on the one side 1.
abbrev pub lines_from : List (List Trit) → List Node → List Line
lines_from [] nodes = []
lines_from (cube ∷ cubes) [] = []
lines_from (cube ∷ cubes) (x ∷ nodes) = record { cube = cube; node = x } ∷ lines_from (cubes_past cube (position_of x) cubes) nodes
