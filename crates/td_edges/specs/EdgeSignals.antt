-- Edges: the signals of inputs, constants and gates.
use Rattle.std.specs.Prelude.{ℕ, ◌+◌, ◌-◌, ◌==◌, min, max, nat_lt, Bool, ◌||◌, List, [], ◌∷◌, map, Option, Some, None, if◌then◌else◌}
use Rattle.td_gates.specs.declared.primitives.Level.{Level}
use Rattle.td_gates.specs.declared.primitives.Level.TheVariants.{Zero as Low, One as High, X}
use Rattle.td_gates.specs.declared.primitives.Kind.{Kind}
use Rattle.td_gates.specs.declared.primitives.Kind.TheVariants.{And, Nand, Or, Nor, Xor, Xnor, Buf, Not}
use Rattle.td_gates.specs.declared.timing.Delay.{Delay}
use Rattle.td_gates.specs.Table.{level_from, level_eq, table, inverse_of, delay_to, controlling, controls}
use Rattle.td_domain.specs.declared.cubes.Trit.{Trit}
use Rattle.td_domain.specs.Cubes.{level_of_trit}
use Rattle.td_domain.specs.Functions.{Functions}
use Rattle.td_edges.specs.declared.signals.Span.{Span}
use Rattle.td_edges.specs.declared.signals.Signal.{Signal}
use Rattle.td_edges.specs.Spans.{until, until_of, earliest_of, moving}
use Rattle.td_edges.specs.Parting.{parity_span}

-- An input changes to a level at its moment or never, and surely never where it surely starts at
-- that level, or surely finishes at the other one.
abbrev pub input_until : Level → Level → ℕ → Level → ℕ
input_until start finish moment level =
    if level_eq start level || level_eq finish (inverse_of level) then 0 else moment + 1

abbrev pub input_changes : Level → Level → ℕ → Option Span
input_changes start finish moment = moving (record {
  earliest = moment;
  falls_until = input_until start finish moment Low;
  rises_until = input_until start finish moment High;
})

abbrev pub input_signal : Trit → Trit → ℕ → Signal
input_signal first second moment = record {
  start = level_of_trit first;
  finish = level_of_trit second;
  changes = input_changes (level_of_trit first) (level_of_trit second) moment;
}

abbrev pub constant_signal : Bool → Signal
constant_signal one = record { start = level_from one; finish = level_from one; changes = None }

-- the latest change of a signal, 0 where there is none
abbrev pub last_of : Signal → Option ℕ
last_of signal = Some (until_of X signal.changes - 1)

-- the least span around both
abbrev pub around : Option Span → Option Span → Option Span
around None others = others
around (Some span) None = Some span
around (Some span) (Some others) = Some (record {
  earliest = min span.earliest others.earliest;
  falls_until = max span.falls_until others.falls_until;
  rises_until = max span.rises_until others.rises_until;
})

-- 1. The target changes no sooner than some input; where none may change, never.
abbrev pub hull : List Signal → Option Span
hull [] = None
hull (signal ∷ signals) = around signal.changes (hull signals)

-- the span of the negation
abbrev pub turned : Span → Span
turned span = record { earliest = span.earliest; falls_until = span.rises_until; rises_until = span.falls_until }

-- 2. The target changes to a level only where some input changes to it, to the other level at a
--    gate that negates. A parity changes with any input.
abbrev pub target_span : Kind → List Signal → Span → Span
target_span And signals span = span
target_span Or signals span = span
target_span Buf signals span = span
target_span Nand signals span = turned span
target_span Nor signals span = turned span
target_span Not signals span = turned span
target_span Xor signals span = parity_span Low signals span.earliest
target_span Xnor signals span = parity_span High signals span.earliest

-- the level that an input at the controlling level gives the output, x where there is none
abbrev pub settled : Kind → Level
settled And = Low
settled Nand = High
settled Or = High
settled Nor = Low
settled kind = X

-- the span whose changes to a known level come before this moment too
abbrev pub limited : Level → ℕ → Span → Span
limited Low moment span = record span { falls_until = min span.falls_until moment }
limited High moment span = record span { rises_until = min span.rises_until moment }
limited X moment span = span

-- 3. An input that surely finishes at the controlling level keeps the target from its latest change
--    to that level on.
abbrev pub capped : Option Level → Level → Signal → Span → Span
capped control out signal span =
    if controls control signal.finish then limited out (until_of signal.finish signal.changes) span else span

-- 4. An input that surely starts at the controlling level keeps the target until its earliest
--    change.
abbrev pub raised : Option Level → Signal → Span → Span
raised control signal span =
    if controls control signal.start then record span { earliest = max span.earliest (earliest_of signal.changes) } else span

-- 3 and 4 for each input
abbrev pub kept_by : Option Level → Level → List Signal → Span → Span
kept_by control out [] span = span
kept_by control out (signal ∷ later) span = kept_by control out later (raised control signal (capped control out signal span))

-- 5. A change away from the finish is seen only where the change back comes no sooner than the
--    delay of the former.
abbrev pub filtered : Delay → Level → Span → Span
filtered delay finish span = limited (inverse_of finish) (until finish span - delay_to delay (inverse_of finish)) span

-- 6. No change comes before the earliest: there is no change to a level where the moment for it
-- isn't after the earliest.
abbrev pub after_earliest : ℕ → ℕ → ℕ
after_earliest earliest moment = if nat_lt earliest moment then moment else 0

abbrev pub timely : Span → Span
timely span = record {
  earliest = span.earliest;
  falls_until = after_earliest span.earliest span.falls_until;
  rises_until = after_earliest span.earliest span.rises_until;
}

-- 7. An output that may not change to its finish, or not away from its start, never changes.
abbrev pub never_changes : Level → Level → Span → Bool
never_changes start finish span = until finish span == 0 || until (inverse_of start) span == 0

-- 8. Changes come later by the delay to their level, and the first one leads away from the start.
--    Where none come, none do.
abbrev pub put_off : ℕ → ℕ → ℕ
put_off steps moment = if nat_lt 0 moment then moment + steps else 0

abbrev pub delayed : Delay → Level → Span → Span
delayed delay start span = record {
  earliest = span.earliest + delay_to delay (inverse_of start);
  falls_until = put_off delay.fall span.falls_until;
  rises_until = put_off delay.rise span.rises_until;
}

-- the changes of an output, by those of its target that are seen
abbrev pub output_changes : Delay → Level → Level → Span → Option Span
output_changes delay start finish span = if never_changes start finish span then None else Some (delayed delay start span)

-- the changes of an output whose target changes in the span
abbrev pub delayed_changes : Delay → Level → Level → Span → Option Span
delayed_changes delay start finish span = output_changes delay start finish (timely (filtered delay finish span))

-- the changes of an output whose inputs change in the span
abbrev pub gate_changes : Kind → Delay → Level → Level → List Signal → Option Span → Option Span
gate_changes kind delay start finish signals None = None
gate_changes kind delay start finish signals (Some span) =
    delayed_changes delay start finish (kept_by (controlling kind) (settled kind) signals (target_span kind signals span))

abbrev pub gate_start : Kind → List Signal → Level
gate_start kind signals = table kind (map (λ signal. signal.start) signals)

abbrev pub gate_finish : Kind → List Signal → Level
gate_finish kind signals = table kind (map (λ signal. signal.finish) signals)

-- the signal of a gate's output
abbrev pub gate_signal : Kind → Delay → List Signal → Signal
gate_signal kind delay signals = record {
  start = gate_start kind signals;
  finish = gate_finish kind signals;
  changes = gate_changes kind delay (gate_start kind signals) (gate_finish kind signals) signals (hull signals);
}

-- the domain of edges
abbrev pub edge_functions : Functions Signal
edge_functions = record {
  input_of = input_signal;
  constant_of = constant_signal;
  gate_of = gate_signal;
  last_of = last_of;
}
