-- Endings: lists of clauses that end with an empty one, which is true of no run.
use Rattle.std.specs.Prelude.{Bool, true, false, List, [], ◌∷◌}
use Rattle.td_propagation.specs.declared.literal.Literal.{Literal}

abbrev pub is_nil : List Literal → Bool
is_nil [] = true
is_nil (literal ∷ clause) = false

-- whether there is a clause, and the last one is empty
abbrev pub ends_empty : List (List Literal) → Bool
ends_empty [] = false
ends_empty (clause ∷ []) = is_nil clause
ends_empty (clause ∷ next ∷ clauses) = ends_empty (next ∷ clauses)
