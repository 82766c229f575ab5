-- Hints: clauses that are shown by others, which hints name by their numbers, from 0 on.
use Rattle.std.specs.Prelude.{ℕ, List}
use Rattle.td_propagation.specs.declared.literal.Literal.{Literal}
use Rattle.td_propagation.specs.declared.clauses.Outcome.{Outcome}
use Rattle.td_propagation.specs.Following.{shown_by}
use Rattle.td_propagation.specs.Lists as lists
use Rattle.td_spans.specs.declared.lemmas.Lemmas.{Lemmas}

-- where hints, which are numbers of clauses, lead when the literals are taken to be false
abbrev pub shown_at : List (List Literal) → ℕ → List Literal → List ℕ → Outcome
shown_at clauses count clause hints = shown_by clauses count clause hints

-- the clauses, in order
abbrev pub clauses_of : Lemmas → List (List Literal)
clauses_of lemmas = lists.list_of lemmas.clauses

-- how many variables hints may mark
abbrev pub variables_of : Lemmas → ℕ
variables_of lemmas = lists.variables_of lemmas.clauses
