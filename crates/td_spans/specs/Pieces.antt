-- Pieces: counts of levels that stay the same from place to place, up to the end of each piece.
use Rattle.std.specs.Prelude.{ℕ, ◌+◌, ◌==◌, nat_le, min, Bool, ◌&&◌, List, [], ◌∷◌, ◌++◌, slice_get, Option, Some, None, unwrap_or, option_to_list, if◌then◌else◌}
use Rattle.std.specs.List.{list_all}
use Rattle.td_gates.specs.declared.primitives.Level.{Level}
use Rattle.td_gates.specs.declared.primitives.Level.TheVariants.{Zero, One, X}
use Rattle.td_gates.specs.declared.counts.Counts.{Counts}
use Rattle.td_gates.specs.declared.primitives.Kind.{Kind}
use Rattle.td_gates.specs.Table.{level_eq, level_from}
use Rattle.td_gates.specs.Counts.{table_by}
use Rattle.td_propagation.specs.declared.literal.Literal.{Literal}
use Rattle.td_propagation.specs.Literals.{negation}
use Rattle.td_spans.specs.declared.pieces.Piece.{Piece}
use Rattle.td_spans.specs.declared.times.Times.{Times}
use Rattle.td_spans.specs.declared.variable.Saying.{Saying}
use Rattle.td_spans.specs.declared.variable.Variable.{Variable}
use Rattle.td_spans.specs.Times.{is_by}
use Rattle.td_spans.specs.Sayings.{says}
use Rattle.td_spans.specs.Clauses.{constant_trit, trit_from}

-- no input
abbrev pub no_counts : Counts
no_counts = record { zeros = 0; ones = 0; unknowns = 0 }

-- one input at a level
abbrev pub one_at : Level → Counts
one_at Zero = record { zeros = 1; ones = 0; unknowns = 0 }
one_at One = record { zeros = 0; ones = 1; unknowns = 0 }
one_at X = record { zeros = 0; ones = 0; unknowns = 1 }

-- the counts of the first piece that isn't over at a place, the rest where all are
abbrev pub counts_or : List Piece → Counts → ℕ → Counts
counts_or [] rest place = rest
counts_or (piece ∷ pieces) rest place = if is_by place piece.last then piece.counts else counts_or pieces rest place

-- whether nothing is counted
abbrev pub is_nothing : Counts → Bool
is_nothing counts = counts.zeros == 0 && (counts.ones == 0 && counts.unknowns == 0)

-- the sum of two counts, as far as a number goes
abbrev pub few_of : ℕ → ℕ → ℕ
few_of one other = min (one + other) 18446744073709551615

abbrev pub sum_counts : Counts → Counts → Counts
sum_counts one other = record {
  zeros = few_of one.zeros other.zeros;
  ones = few_of one.ones other.ones;
  unknowns = few_of one.unknowns other.unknowns;
}

-- two counts as one: what is counted alone, else their sum, or the first of them
abbrev pub joined : Bool → Counts → Counts → Counts
joined adds one other =
    if is_nothing one then other else (if is_nothing other then one else (if adds then sum_counts one other else one))

-- the earlier of two last places, where there is one
abbrev pub nearest : Option ℕ → Option ℕ → Option ℕ
nearest None other = other
nearest (Some one) None = Some one
nearest (Some one) (Some other) = Some (min one other)

-- the next index after a piece that is over, else the same
abbrev pub next_index : ℕ → Bool → ℕ
next_index index over = if over then index + 1 else index

-- the pieces at two indices, where both are there
abbrev pub two_at : Option Piece → Option Piece → Option (Piece × Piece)
two_at None other = None
two_at (Some one) None = None
two_at (Some one) (Some other) = Some (one, other)

-- the piece at an index, after all of them one that counts nothing and has no end
abbrev pub piece_at : List Piece → ℕ → Piece
piece_at pieces index = unwrap_or (slice_get pieces index) (record { last = None; counts = no_counts })

-- one input at the level of the first saying that has the place, the rest where none has
abbrev pub told_or : List Saying → Counts → ℕ → Counts
told_or [] rest place = rest
told_or (saying ∷ sayings) rest place =
    if nat_le saying.first place && is_by place saying.last then one_at (level_from saying.level) else told_or sayings rest place

-- what literals say, where they are false
abbrev pub said_of : List Variable → List Times → List Literal → List Saying
said_of variables times [] = []
said_of variables times (literal ∷ others) = option_to_list (says variables times (negation literal)) ++ said_of variables times others

-- a saying, where it is of this net
abbrev pub own_if : Saying → ℕ → List Saying
own_if saying net = if saying.net == net then saying ∷ [] else []

-- what is said of a net
abbrev pub own_of : List Saying → ℕ → List Saying
own_of [] net = []
own_of (saying ∷ sayings) net = own_if saying net ++ own_of sayings net

-- the level of a net by what is said
abbrev pub trit_said : List Saying → ℕ → ℕ → Level
trit_said [] net place = constant_trit net
trit_said (saying ∷ sayings) net place = trit_from (Some saying) net place (trit_said sayings net place)

-- whether nets all are the same one
abbrev pub are_all : List ℕ → ℕ → Bool
are_all nets net = list_all (λ other. other == net) nets

-- a count of one net for as many
abbrev pub many : ℕ → ℕ → ℕ
many count one = if one == 0 then 0 else count

abbrev pub many_counts : ℕ → Counts → Counts
many_counts count one = record {
  zeros = many count one.zeros;
  ones = many count one.ones;
  unknowns = many count one.unknowns;
}

abbrev pub repeated_piece : ℕ → Piece → Piece
repeated_piece count one = record { last = one.last; counts = many_counts count one.counts }

-- whether a gate's target surely is at a level at a place, where pieces count its inputs
abbrev pub is_known_in : Kind → Bool → List Piece → ℕ → Bool
is_known_in kind level pieces place = level_eq (level_from level) (table_by kind (counts_or pieces no_counts place))
