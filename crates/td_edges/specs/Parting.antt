-- The inputs of a gate whose output is at the parity of its inputs, and when that parity changes.
use Rattle.std.specs.Prelude.{ℕ, max, nat_lt, List, [], ◌∷◌, None, if◌then◌else◌}
use Rattle.td_gates.specs.declared.primitives.Level.{Level}
use Rattle.td_gates.specs.declared.primitives.Level.TheVariants.{Zero as Low, One as High, X}
use Rattle.td_gates.specs.Table.{inverse_of}
use Rattle.td_edges.specs.declared.signals.Span.{Span}
use Rattle.td_edges.specs.declared.signals.Signal.{Signal}
use Rattle.td_edges.specs.declared.parting.Parting.{Parting}
use Rattle.td_edges.specs.Spans.{until_of}

-- the exclusive or of two levels, x where one is x
abbrev pub odd : Level → Level → Level
odd Low level = level
odd High level = inverse_of level
odd X level = X

-- no inputs: a constant 0 stands for the last to change
abbrev pub no_parts : Level → Parting
no_parts parity =
    record { latest = record { start = Low; finish = Low; changes = None }; others_until = 0; others_parity = parity }

-- one input more: the one whose changes end last stands apart, and the other joins the others
abbrev pub parted_with : Signal → Parting → Parting
parted_with signal parts =
    if nat_lt (until_of X parts.latest.changes) (until_of X signal.changes)
    then record {
      latest = signal;
      others_until = max parts.others_until (until_of X parts.latest.changes);
      others_parity = odd parts.others_parity parts.latest.finish;
    }
    else record {
      latest = parts.latest;
      others_until = max parts.others_until (until_of X signal.changes);
      others_parity = odd parts.others_parity signal.finish;
    }

abbrev pub parted : Parting → List Signal → Parting
parted parts [] = parts
parted parts (signal ∷ later) = parted (parted_with signal parts) later

-- Until when the parity changes to a level: until the others end. After that it changes only with
-- the input that changes last. This input is then at the level that makes the parity of it and of
-- the others' finishes. Where these finishes aren't known, until all changes of that input.
abbrev pub parity_until : Parting → Level → ℕ
parity_until parts level = max parts.others_until (until_of (odd parts.others_parity level) parts.latest.changes)

-- when the parity changes, or its negation, where the parity begins with 1
abbrev pub parity_span : Level → List Signal → ℕ → Span
parity_span parity signals earliest = record {
  earliest = earliest;
  falls_until = parity_until (parted (no_parts parity) signals) Low;
  rises_until = parity_until (parted (no_parts parity) signals) High;
}
