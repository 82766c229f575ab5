-- The private tree of a worker, and what it is on the board.
use Rattle.std.specs.Prelude.{◌≡◌, ℕ, ◌+◌, List, [], ◌∷◌, ◌++◌, length, map}
use Rattle.td_domain.specs.declared.cubes.Trit.{Trit}
use Rattle.td_book.specs.declared.node.Node.{Node}
use Rattle.td_book.specs.declared.node.State.{State}
use Rattle.td_book.specs.declared.node.State.TheVariants.{Split, Open}
use Rattle.td_book.specs.declared.lease.Lease.{Lease}
use Rattle.td_certificate.specs.Cubes.{cubes_past, zero_side, one_side}
use Rattle.td_book.specs.Board.{Board, Leaf, node, position_of}
use Rattle.td_book.specs.Kept.{sides}
use Rattle.td_book.specs.Steps.{Fits, Grafts}

-- The root's cube, how the nodes were split and closed, one after another, depth first, zero side
-- first, and how many may be.
pub record PrivateTree : Type 0 where
  pub cube : List Trit
  pub states : List State
  pub allowance : ℕ

-- the cubes that are left of these, once the first of them was split or closed so, and then the
-- first that was left, and so on
abbrev pub cubes_left : List State → List (List Trit) → List (List Trit)
cubes_left [] cubes = cubes
cubes_left (s ∷ states) [] = []
cubes_left (s ∷ states) (cube ∷ cubes) = cubes_left states (cubes_past cube (position_of s) cubes)

-- each of these states fits the cube that comes next
abbrev pub FitAll : List State → List (List Trit) → Type 0
FitAll [] cubes = Unit {0}
FitAll (s ∷ states) [] = ⊥
FitAll (s ∷ states) (cube ∷ cubes) = Fits cube s × FitAll states (cubes_past cube (position_of s) cubes)

abbrev pub open_leaf : List Trit → ℕ → Leaf
open_leaf cube number = record { cube = cube; node = node number Open }

-- the leaves that a split opens, with the next numbers
abbrev pub open_sides : List Trit → State → ℕ → List Leaf
open_sides cube (Split position) next = open_leaf (zero_side cube position) next ∷ open_leaf (one_side cube position) (next + 1) ∷ []
open_sides cube _ next = []

-- These leaves, depth first, each as it was split or closed. The leaves that are opened get the
-- numbers from `next` on.
abbrev pub settlements : List State → List Leaf → ℕ → List Leaf
settlements [] leaves next = []
settlements (s ∷ states) [] next = []
settlements (s ∷ states) (l ∷ leaves) next =
    record { cube = l.cube; node = node l.node.number s }
    ∷ settlements states (open_sides l.cube s next ++ leaves) (next + length (sides s next))

-- the leaves that are left open then, in the tree's order
abbrev pub leaves_left : List State → List Leaf → ℕ → List Leaf
leaves_left [] leaves next = leaves
leaves_left (s ∷ states) [] next = []
leaves_left (s ∷ states) (l ∷ leaves) next = leaves_left states (open_sides l.cube s next ++ leaves) (next + length (sides s next))

abbrev pub leaf_nodes : List Leaf → List Node
leaf_nodes leaves = map (λ l. l.node) leaves

abbrev pub numbers : List Leaf → List ℕ
numbers leaves = map (λ l. l.node.number) leaves

-- The splits and closes of the private tree are made on the board, below the lease, and `left` are
-- the leaves that stay open.
abbrev pub Grafted : Board → Lease → PrivateTree → List ℕ → Board → Type 0
Grafted b lease tree left c =
    Grafts b lease (settlements tree.states (open_leaf lease.cube lease.number ∷ []) (length b.nodes)) c
    × (left ≡ numbers (leaves_left tree.states (open_leaf lease.cube lease.number ∷ []) (length b.nodes)))
