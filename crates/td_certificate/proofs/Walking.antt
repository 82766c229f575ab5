-- The lines of a tree, by one walk over its nodes.
use Rattle.std.proofs.Common.{◌≡◌, List, [], ◌∷◌, ◌++◌, set, refl, sym, ap, ◌∙◌, append_assoc}
use Rattle.std.proofs.lemmas.List.{append-nil}
use Rattle.td_domain.specs.declared.cubes.Trit.{Trit}
use Rattle.td_domain.specs.declared.cubes.Trit.TheVariants.{Zero, One}
use Rattle.td_certificate.specs.declared.tree.Node.{Node}
use Rattle.td_certificate.specs.declared.tree.Node.TheVariants as node
use Rattle.td_certificate.specs.Trees.{Tree, Split, Bound, Point, Empty, RefutedLeaf, nodes_of, lines_of, LinesAreWalked}
use Rattle.td_certificate.specs.Walks.{Line, lines_from}

-- a walk goes over the first tree, and then on
walked : (tree : Tree) (cube : List Trit) (cubes : List (List Trit)) (nodes : List Node)
    → lines_from (cube ∷ cubes) (nodes_of tree ++ nodes) ≡ lines_of cube tree ++ lines_from cubes nodes
unfolding nodes_of lines_of
walked (Split position zero_side one_side) cube cubes nodes =
    let low : List Trit = set cube position Zero in
    let high : List Trit = set cube position One in
    let first : lines_from (low ∷ high ∷ cubes) (nodes_of zero_side ++ (nodes_of one_side ++ nodes))
    ≡ lines_of low zero_side ++ lines_from (high ∷ cubes) (nodes_of one_side ++ nodes) =
    walked zero_side low (high ∷ cubes) (nodes_of one_side ++ nodes) in
    let second : lines_from (high ∷ cubes) (nodes_of one_side ++ nodes) ≡ lines_of high one_side ++ lines_from cubes nodes =
    walked one_side high cubes nodes in
    ap (λ (lines : List Line). record { cube = cube; node = node.Split position } ∷ lines)
    (ap (lines_from (low ∷ high ∷ cubes)) (append_assoc (nodes_of zero_side) (nodes_of one_side) nodes)
    ∙ first ∙ ap (λ (lines : List Line). lines_of low zero_side ++ lines) second
    ∙ sym (append_assoc (lines_of low zero_side) (lines_of high one_side) (lines_from cubes nodes)))
walked (Bound domain bound) cube cubes nodes = refl
walked (Point time) cube cubes nodes = refl
walked Empty cube cubes nodes = refl
walked (RefutedLeaf refuted) cube cubes nodes = refl

pub lines_are_walked : LinesAreWalked
lines_are_walked tree cube =
    ap (lines_from (cube ∷ [])) (sym (append-nil (nodes_of tree))) ∙ walked tree cube [] [] ∙ append-nil (lines_of cube tree)
