-- Clauses: those that are true of every run.
use Rattle.std.specs.Prelude.{◌≡◌, ℕ, ◌≤◌, ◌==◌, nat_le, max, Bool, true, false, not, ◌&&◌, ◌||◌, List, [], ◌∷◌, map, slice_get, Option, Some, None, if◌then◌else◌}
use Rattle.td_gates.specs.declared.primitives.Level.{Level}
use Rattle.td_gates.specs.declared.primitives.Level.TheVariants.{Zero, One, X}
use Rattle.td_gates.specs.Table.{table, level_eq, level_from}
use Rattle.td_circuit.specs.Numbering.{NumberedGate, Numbered}
use Rattle.td_domain.specs.declared.cubes.Trit.{Trit}
use Rattle.td_domain.specs.declared.cubes.Trit.TheVariants as trit
use Rattle.td_spans.specs.Targets.{steps_to}
use Rattle.td_spans.specs.Lookups.{IsDriven, driver}
use Rattle.td_propagation.specs.declared.literal.Literal.{Literal}
use Rattle.td_propagation.specs.Literals.{negation}
use Rattle.td_spans.specs.declared.times.Times.{Times}
use Rattle.td_spans.specs.declared.variable.Saying.{Saying}
use Rattle.td_spans.specs.declared.variable.Variable.{Variable}
use Rattle.td_spans.specs.declared.variable.Variable.TheVariants.{First, Last, Span}
use Rattle.td_spans.specs.Times.{is_by}
use Rattle.td_spans.specs.Sayings.{says}
use Rattle.td_spans.specs.Sure.{IsSure}

-- what is known of a net without a clause: the levels of the constants
abbrev pub constant_trit : ℕ → Level
constant_trit net = if net == 0 then Zero else (if net == 1 then One else X)

-- whether a saying is of this net and this place
abbrev pub covers : Saying → ℕ → ℕ → Bool
covers saying net place = saying.net == net && (nat_le saying.first place && is_by place saying.last)

abbrev pub trit_from : Option Saying → ℕ → ℕ → Level → Level
trit_from None net place rest = rest
trit_from (Some saying) net place rest = if covers saying net place then level_from saying.level else rest

-- the level that a net has at a place where all of these literals are false, x where they don't say
abbrev pub trit_by : List Variable → List Times → List Literal → ℕ → ℕ → Level
trit_by variables times [] net place = constant_trit net
trit_by variables times (literal ∷ others) net place =
    trit_from (says variables times (negation literal)) net place (trit_by variables times others net place)

-- whether a gate's target surely is at a level at a place, where all of these literals are false
abbrev pub is_known : List Variable → List Times → NumberedGate → List Literal → Bool → ℕ → Bool
is_known variables times gate body level place =
    level_eq (level_from level) (table gate.kind (map (λ net. trit_by variables times body net place) gate.inputs))

-- the output surely is at the saying's level at all its places
abbrev pub IsSureOf : (ℕ → Bool) → ℕ → ℕ → Saying → Type 0
IsSureOf known coming going saying = (n : ℕ) → saying.first ≤ n → is_by n saying.last ≡ true → IsSure known coming going n

-- The clause of a gate: it has no more literals than a gate's clause may, and where all but the first
-- are false, the output of a gate surely is as the first one says.
pub record IsGateClause (circuit : Numbered) (variables : List Variable) (times : List Times) (head : Literal) (body : List Literal) : Type 0 where
  pub saying : Saying
  pub said : says variables times head ≡ Some saying
  pub driven : IsDriven circuit saying.net
  pub sure : IsSureOf (is_known variables times (driver circuit saying.net) body saying.level)
      (steps_to (driver circuit saying.net).delay saying.level) (steps_to (driver circuit saying.net).delay (not saying.level)) saying

-- the net of a variable of its start, or of its end
abbrev pub settled_net : Bool → Option Variable → Option ℕ
settled_net false (Some (First net)) = Some net
settled_net true (Some (Last net)) = Some net
settled_net last variable = None

abbrev pub trit_if : Option ℕ → Bool → ℕ → Level → Level
trit_if None level net rest = rest
trit_if (Some other) level net rest = if other == net then level_from level else rest

-- the level at which a net starts, or ends, where all of these literals are false
abbrev pub settled_trit : Bool → List Variable → List Literal → ℕ → Level
settled_trit last variables [] net = constant_trit net
settled_trit last variables (literal ∷ others) net =
    trit_if (settled_net last (slice_get variables literal.variable)) (not literal.positive) net (settled_trit last variables others net)

-- Whether it is the clause of a gate that is settled, at the start or in the end: where all literals
-- but the first are false, the gate's table gives the level that the first one says.
abbrev pub is_settled_clause : List Variable → Bool → NumberedGate → Literal → List Literal → Bool
is_settled_clause variables last gate head body =
    level_eq (level_from head.positive) (table gate.kind (map (settled_trit last variables body) gate.inputs))

abbrev pub level_is : Bool → Bool → Bool
level_is true level = level
level_is false level = not level

abbrev pub is_none : Option ℕ → Bool
is_none None = true
is_none (Some n) = false

-- no place by the first is after the second
abbrev pub is_within : Option ℕ → Option ℕ → Bool
is_within last None = true
is_within None (Some end) = false
is_within (Some last) (Some end) = nat_le last end

-- whether the net is at the saying's level at each place of another span
abbrev pub is_part : Saying → Saying → Bool
is_part part saying = part.net == saying.net && (level_is part.level saying.level && (nat_le saying.first part.first && is_within part.last saying.last))

-- whether two spans of a net have different levels and a place in common
abbrev pub is_apart : Saying → Saying → Bool
is_apart other saying = other.net == saying.net && (level_is other.level (not saying.level)
    && (is_by (max other.first saying.first) other.last && is_by (max other.first saying.first) saying.last))

-- whether a literal with a sign and a variable says a part of a span
abbrev pub is_part_of : Saying → Bool → Option Variable → Bool
is_part_of saying true (Some (Span part)) = is_part part saying
is_part_of saying positive variable = false

-- whether a literal says the other level than a span at a place
abbrev pub is_apart_from : Saying → Option Saying → Bool
is_apart_from saying None = false
is_apart_from saying (Some other) = is_apart other saying

-- whether a literal with a sign and a variable is true, by what two others deny, where a net has one
-- level at a place
abbrev pub net_by : Option Saying → Bool → Option Variable → Option Saying → Bool
net_by None positive variable other = false
net_by (Some saying) positive variable other = is_part_of saying positive variable || is_apart_from saying other

-- Whether it is the clause of a net: where the first literal is false, a span holds of which the
-- second is a part, or to which what the second denies is contrary.
abbrev pub is_net_clause : List Variable → List Times → Literal → Literal → Bool
is_net_clause variables times one other =
    net_by (says variables times (negation one)) other.positive (slice_get variables other.variable) (says variables times (negation other))

-- whether a trit is this bit
abbrev pub is_fixed : Option Trit → Bool → Bool
is_fixed None bit = false
is_fixed (Some trit.Zero) bit = not bit
is_fixed (Some trit.One) bit = bit
is_fixed (Some trit.Free) bit = false
