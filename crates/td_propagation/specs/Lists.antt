-- Lists: the clauses by number, and how many variables there are.
use Rattle.std.specs.Prelude.{ℕ, List, length}
use Rattle.td_propagation.specs.declared.literal.Literal.{Literal}
use Rattle.td_propagation.specs.declared.clauses.Clauses.{Clauses}

abbrev pub list_of : Clauses → List (List Literal)
list_of clauses = clauses.clauses

abbrev pub variables_of : Clauses → ℕ
variables_of clauses = length clauses.denied.marks.items
