-- Lowering: ends that steps make lower, and what these say in the end.
use Rattle.std.specs.Prelude.{ℕ, ◌-◌, ◌==◌, nat_le, max, min, Bool, true, false, not, ◌&&◌, List, [], ◌∷◌, get_or, set, slice_get, Option, Some, None}
use Rattle.td_circuit.specs.Numbering.{NumberedGate}
use Rattle.td_propagation.specs.declared.literal.Literal.{Literal}
use Rattle.td_spans.specs.declared.times.Places.{Places}
use Rattle.td_spans.specs.declared.times.Times.{Times}
use Rattle.td_spans.specs.declared.variable.Variable.{Variable}
use Rattle.td_spans.specs.declared.variable.Variable.TheVariants.{First, Last, Span, Flips}
use Rattle.td_spans.specs.Times.{place_for}
use Rattle.td_spans.specs.Rules.{no_times, times_of, end_by}
use Rattle.td_spans.specs.Clauses.{level_is, is_none}

abbrev pub with_place : Places → Bool → ℕ → Places
with_place places true place = record { zero = places.zero; one = place }
with_place places false place = record { zero = place; one = places.one }

-- the end for a level is at most this place
abbrev pub lowered : Times → Bool → ℕ → Times
lowered times level place = record {
  early = times.early;
  ends = with_place times.ends level (min (place_for times.ends level) place);
}

-- a net's end for a level is at most this place
abbrev pub lower : List Times → ℕ → Bool → ℕ → List Times
lower times net level place = set times net (lowered (get_or times net no_times) level place)

-- whether a literal says that the net doesn't end at the level, or that it is at rest from the place
-- on
abbrev pub is_at_rest : ℕ → Bool → ℕ → Bool → Option Variable → Bool
is_at_rest net level place positive None = false
is_at_rest net level place positive (Some (First other)) = false
is_at_rest net level place positive (Some (Last other)) = other == net && level_is positive (not level)
is_at_rest net level place true (Some (Span saying)) = saying.net == net && (nat_le saying.first place && is_none saying.last)
is_at_rest net level place false (Some (Span saying)) = false
is_at_rest net level place positive (Some (Flips inputs count)) = false

-- whether each literal of a clause does
abbrev pub are_at_rest : List Variable → ℕ → Bool → ℕ → List Literal → Bool
are_at_rest variables net level place [] = true
are_at_rest variables net level place (literal ∷ others) =
    is_at_rest net level place literal.positive (slice_get variables literal.variable) && are_at_rest variables net level place others

-- the end of a gate's output for a level by the ends of its inputs as they are
abbrev pub end_again : List Times → NumberedGate → Bool → ℕ
end_again times gate level = end_by gate.kind gate.delay (times_of times gate.inputs) level

-- the ends of a gate's output for both levels, by the ends of its inputs as they are, where less
abbrev pub again : List Times → ℕ → NumberedGate → List Times
again times net gate =
    set times net (lowered (lowered (get_or times net no_times) false (end_again times gate false)) true (end_again times gate true))

-- the latest moment at which one of these nets may change
abbrev pub latest_of : List Times → List ℕ → ℕ
latest_of times [] = 0
latest_of times (net ∷ nets) =
    max (max (get_or times net no_times).ends.zero (get_or times net no_times).ends.one - 1) (latest_of times nets)
