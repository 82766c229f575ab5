-- Literals and clauses: when they are true.
use Rattle.std.specs.Prelude.{◌≡◌, ℕ, ◌/◌, ◌%◌, ◌==◌, Bool, true, false, not, ◌&&◌, ◌||◌, List, [], ◌∷◌, if◌then◌else◌}
use Rattle.td_propagation.specs.declared.literal.Literal.{Literal}

-- a literal's number is twice that of its variable, and one more for its negation
abbrev pub literal_at : ℕ → Literal
literal_at number = record { variable = number / 2; positive = number % 2 == 0 }

abbrev pub negation : Literal → Literal
negation literal = record { variable = literal.variable; positive = not literal.positive }

-- what a literal with this sign is, by what its variable is
abbrev pub signed : Bool → Bool → Bool
signed positive value = if positive then value else not value

-- A valuation says of each variable whether it is true.
abbrev pub literal_true : (ℕ → Bool) → Literal → Bool
literal_true valuation literal = signed literal.positive (valuation literal.variable)

abbrev pub clause_true : (ℕ → Bool) → List Literal → Bool
clause_true valuation [] = false
clause_true valuation (literal ∷ clause) = literal_true valuation literal || clause_true valuation clause

abbrev pub IsTrueUnder : (ℕ → Bool) → List Literal → Type 0
IsTrueUnder valuation clause = clause_true valuation clause ≡ true

-- whether two literals are the same
abbrev pub is_same : Literal → Literal → Bool
is_same one other = one.variable == other.variable && signed one.positive other.positive
