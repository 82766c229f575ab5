-- Internal: the nodes of a search that has ended, as the nodes of a certificate's tree, where what is
-- open is folded into the nearest node above with a bound that is at most the upper figure.
use Rattle.std.specs.Prelude.{ℕ, zero, suc, List, [], ◌∷◌, nat_le, slice_get, unwrap_or, if◌then◌else◌}
use Rattle.td_book.specs.declared.node.Node.{Node}
use Rattle.td_book.specs.declared.node.State.{State}
use Rattle.td_book.specs.declared.node.State.TheVariants.{Split, Open, Held, Closed}
use Rattle.td_certificate.specs.declared.tree.BoundedBy.{BoundedBy}
use Rattle.td_certificate.specs.declared.tree.Node as line
use Rattle.td_certificate.specs.declared.tree.Node.TheVariants as lines
use Rattle.td_search.specs.Listed.{certificate_node}

-- the bound at a node's number: of the cube of its parent, or of the root
abbrev pub bound_at : List ℕ → ℕ → ℕ
bound_at bounds number = unwrap_or (slice_get bounds number) 0

-- the bound of a cube that was split, by the first of the nodes after it
abbrev pub bound_before : List ℕ → List Node → ℕ
bound_before bounds [] = 0
bound_before bounds (x ∷ xs) = bound_at bounds x.number

-- how many trees come below a node
abbrev pub sides_of : State → ℕ
sides_of (Split position) = 2
sides_of _ = 0

-- these and as many more
abbrev pub passed_below : State → ℕ → ℕ
passed_below (Split position) passed = suc (suc passed)
passed_below _ passed = passed

-- How many of the trees that come next are passed over after a node: both sides of one that becomes
-- a leaf since its own bound is at most the upper figure.
abbrev pub passed_over : ℕ → ℕ → State → ℕ
passed_over high own (Split position) = if nat_le own high then 2 else 0
passed_over high own _ = 0

-- the certificate's node: a leaf for one that was split and becomes a leaf, or for the root where it
-- isn't split
abbrev pub folded_line : BoundedBy → ℕ → ℕ → ℕ → State → line.Node
folded_line domain high own near (Split position) = if nat_le own high then lines.Bound domain own else lines.Split position
folded_line domain high own near Open = lines.Bound domain near
folded_line domain high own near (Held worker allowance) = lines.Bound domain near
folded_line domain high own near (Closed mark bound cut) = certificate_node (Closed mark bound cut)

-- all of them, where so many of the trees that come next are passed over
abbrev pub folded : List ℕ → BoundedBy → ℕ → ℕ → List Node → List line.Node
folded bounds domain high passed [] = []
folded bounds domain high zero (x ∷ xs) =
    folded_line domain high (bound_before bounds xs) (bound_at bounds x.number) x.state
    ∷ folded bounds domain high (passed_over high (bound_before bounds xs) x.state) xs
folded bounds domain high (suc passed) (x ∷ xs) = folded bounds domain high (passed_below x.state passed) xs
