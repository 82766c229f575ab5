-- Named: which clauses are true of every run, by the reasons that are given for them.
use Rattle.std.specs.Prelude.{◌≡◌, ℕ, ◌+◌, ◌≤◌, nat_lt, ◌&&◌, Bool, true, false, List, [], ◌∷◌, length, slice_get, Option, Some, None}
use Rattle.td_circuit.specs.Numbering.{Numbered}
use Rattle.td_domain.specs.declared.cubes.Trit.{Trit}
use Rattle.td_spans.specs.Conditions.{Asked, is_keep_clause}
use Rattle.td_propagation.specs.declared.literal.Literal.{Literal}
use Rattle.td_spans.specs.Lookups.{IsDriven, driver}
use Rattle.td_spans.specs.declared.times.Times.{Times}
use Rattle.td_spans.specs.declared.variable.Variable.{Variable}
use Rattle.td_spans.specs.declared.variable.Variable.TheVariants.{First, Last}
use Rattle.td_spans.specs.declared.reason.Reason.{Reason}
use Rattle.td_spans.specs.declared.reason.Reason.TheVariants.{Gate, Table, Net, Pairs, Keep}
use Rattle.td_spans.specs.Clauses.{IsGateClause, is_settled_clause, is_net_clause}
use Rattle.td_spans.specs.Pairs.{is_pairs_clause}

-- how many literals the clause of a gate may have
abbrev pub MOST_LITERALS : ℕ
MOST_LITERALS = 4096

-- a gate gives the clause
abbrev pub IsByGate : Numbered → List Variable → List Times → List Literal → Type 0
IsByGate circuit variables times [] = ⊥
IsByGate circuit variables times (head ∷ body) = (length body + 1 ≤ MOST_LITERALS) × IsGateClause circuit variables times head body

-- whether a variable is of the end of a net, and the net
abbrev pub settled_of : Option Variable → Option (Bool × ℕ)
settled_of (Some (First net)) = Some (false, net)
settled_of (Some (Last net)) = Some (true, net)
settled_of variable = None

-- the table of the gate that drives a net gives the clause, at the start or in the end
abbrev pub IsByTableOf : Numbered → List Variable → Literal → List Literal → Option (Bool × ℕ) → Type 0
IsByTableOf circuit variables head body None = ⊥
IsByTableOf circuit variables head body (Some it) =
    IsDriven circuit it.1 × (is_settled_clause variables it.0 (driver circuit it.1) head body ≡ true)

-- the table of a gate gives the clause
abbrev pub IsByTable : Numbered → List Variable → List Literal → Type 0
IsByTable circuit variables [] = ⊥
IsByTable circuit variables (head ∷ body) = IsByTableOf circuit variables head body (settled_of (slice_get variables head.variable))

-- the literals of a clause with two
abbrev pub two_of : List Literal → Option (Literal × Literal)
two_of (one ∷ other ∷ []) = Some (one, other)
two_of clause = None

abbrev pub by_two : (Literal → Literal → Bool) → Option (Literal × Literal) → Bool
by_two test None = false
by_two test (Some both) = test both.0 both.1

-- whether one net gives the clause
abbrev pub by_net : List Variable → List Times → List Literal → Bool
by_net variables times clause = by_two (is_net_clause variables times) (two_of clause)

-- whether each literal has a variable
abbrev pub has_variables : List Variable → List Literal → Bool
has_variables variables [] = true
has_variables variables (literal ∷ clause) = nat_lt literal.variable (length variables) && has_variables variables clause

-- the reason gives the clause
abbrev pub IsBy : Numbered → Asked → List Trit → List Variable → List Times → Reason → List Literal → Type 0
IsBy circuit asked cube variables times Gate clause = IsByGate circuit variables times clause
IsBy circuit asked cube variables times Table clause = IsByTable circuit variables clause
IsBy circuit asked cube variables times Net clause = by_net variables times clause ≡ true
IsBy circuit asked cube variables times Pairs clause = is_pairs_clause (length circuit.netlist.inputs) asked.admit cube variables clause ≡ true
IsBy circuit asked cube variables times Keep clause = is_keep_clause asked.keep variables clause ≡ true

-- The reason gives the clause, for the pairs of a cube that are asked about, and each of its literals
-- has a variable.
abbrev pub IsNamed : Numbered → Asked → List Trit → List Variable → List Times → Reason → List Literal → Type 0
IsNamed circuit asked cube variables times reason clause =
    (has_variables variables clause ≡ true) × IsBy circuit asked cube variables times reason clause
