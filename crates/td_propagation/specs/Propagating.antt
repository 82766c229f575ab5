-- Propagating: what is left of a clause without the literals that are taken to be false.
use Rattle.std.specs.Prelude.{List, [], ◌∷◌, if◌then◌else◌}
use Rattle.td_propagation.specs.declared.literal.Literal.{Literal}
use Rattle.td_propagation.specs.declared.left.Left.{Left}
use Rattle.td_propagation.specs.declared.left.Left.TheVariants.{Nothing, One, Several}
use Rattle.td_propagation.specs.declared.denied.Mark.{Mark}
use Rattle.td_propagation.specs.Literals.{is_same}
use Rattle.td_propagation.specs.Marks.{is_denied}

-- with one literal more
abbrev pub left_with : Left → Literal → Left
left_with Nothing literal = One literal
left_with (One other) literal = if is_same other literal then One other else Several
left_with Several literal = Several

-- what is left of literals and of those before them, where this is left of those before
abbrev pub left_from : List Mark → Left → List Literal → Left
left_from marks left [] = left
left_from marks left (literal ∷ clause) =
    left_from marks (if is_denied marks literal then left else left_with left literal) clause

-- what is left of a clause
abbrev pub left_of : List Mark → List Literal → Left
left_of marks clause = left_from marks Nothing clause
