-- Arrival windows: those of inputs, constants and gates.
use Rattle.std.specs.Prelude.{ℕ, ◌+◌, ◌-◌, min, max, nat_lt, Bool, false, ◌&&◌, ◌||◌, List, [], ◌∷◌, map, Option, Some, None, is_none, if◌then◌else◌}
use Rattle.std.specs.List.{list_any}
use Rattle.td_gates.specs.declared.primitives.Level.{Level}
use Rattle.td_gates.specs.declared.primitives.Level.TheVariants.{Zero as Low, One as High, X}
use Rattle.td_gates.specs.declared.primitives.Kind.{Kind}
use Rattle.td_gates.specs.declared.timing.Delay.{Delay}
use Rattle.td_gates.specs.Table.{level_from, table, inverse_of, delay_to, controlling, controls}
use Rattle.td_domain.specs.declared.cubes.Trit.{Trit}
use Rattle.td_domain.specs.declared.cubes.Trit.TheVariants.{Zero, One}
use Rattle.td_domain.specs.Cubes.{level_of_trit}
use Rattle.td_domain.specs.Functions.{Functions}
use Rattle.td_arrival.specs.declared.signals.Span.{Span}
use Rattle.td_arrival.specs.declared.signals.Signal.{Signal}

abbrev pub input_changes : Trit → Trit → ℕ → Option Span
input_changes Zero Zero moment = None
input_changes One One moment = None
input_changes first second moment = Some (record { earliest = moment; latest = moment })

-- an input changes at its moment or never, and surely never where both its bits are known and equal
abbrev pub input_signal : Trit → Trit → ℕ → Signal
input_signal first second moment =
    record { start = level_of_trit first; finish = level_of_trit second; changes = input_changes first second moment }

abbrev pub constant_signal : Bool → Signal
constant_signal one = record { start = level_from one; finish = level_from one; changes = None }

-- the latest change of a signal, this moment where there is none
abbrev pub latest_of : ℕ → Option Span → ℕ
latest_of moment None = moment
latest_of moment (Some span) = span.latest

-- the last moment of a signal
abbrev pub last_of : Signal → Option ℕ
last_of signal = Some (latest_of 0 signal.changes)

-- the least span around both
abbrev pub around : Option Span → Option Span → Option Span
around None others = others
around (Some span) None = Some span
around (Some span) (Some others) =
    Some (record { earliest = min span.earliest others.earliest; latest = max span.latest others.latest })

-- from the least earliest change to the greatest latest one, of the signals that may change
abbrev pub hull : List Signal → Option Span
hull [] = None
hull (signal ∷ signals) = around signal.changes (hull signals)

-- whether an input keeps the controlling level for ever
abbrev pub is_held : Option Level → List Signal → Bool
is_held control signals = list_any (λ signal. controls control signal.finish && is_none signal.changes) signals

-- the earliest change of a signal, 0 where there is none
abbrev pub earliest_of : Option Span → ℕ
earliest_of None = 0
earliest_of (Some span) = span.earliest

-- An input that surely starts at the controlling level keeps the target until its earliest change.
abbrev pub opens_at : Option Level → ℕ → List Signal → ℕ
opens_at control earliest [] = earliest
opens_at control earliest (signal ∷ signals) =
    max (if controls control signal.start then earliest_of signal.changes else 0) (opens_at control earliest signals)

-- An input that surely finishes at the controlling level keeps the target from its latest change
-- on.
abbrev pub closes_at : Option Level → ℕ → List Signal → ℕ
closes_at control latest [] = latest
closes_at control latest (signal ∷ signals) =
    min (if controls control signal.finish then latest_of latest signal.changes else latest) (closes_at control latest signals)

-- whether a departure from the start that lasts at most that long comes back too soon to be seen
abbrev pub is_lost : Delay → Level → Level → ℕ → Bool
is_lost delay Low Low width = nat_lt width delay.rise
is_lost delay High High width = nat_lt width delay.fall
is_lost delay start finish width = false

-- the delay of the last change, to a level that may be unknown
abbrev pub last_delay : Delay → Level → ℕ
last_delay delay Low = delay.fall
last_delay delay High = delay.rise
last_delay delay X = max delay.rise delay.fall

-- the changes of an output whose target changes from one moment to another
abbrev pub delayed_span : Delay → Level → Level → ℕ → ℕ → Option Span
delayed_span delay start finish earliest latest =
    if nat_lt latest earliest || is_lost delay start finish (latest - earliest)
    then None
    else Some (record { earliest = earliest + delay_to delay (inverse_of start); latest = latest + last_delay delay finish })

-- the changes of an output whose inputs change within the span
abbrev pub gate_changes : Option Level → Delay → Level → Level → List Signal → Option Span → Option Span
gate_changes control delay start finish signals None = None
gate_changes control delay start finish signals (Some span) =
    if is_held control signals
    then None
    else delayed_span delay start finish (opens_at control span.earliest signals) (closes_at control span.latest signals)

abbrev pub gate_start : Kind → List Signal → Level
gate_start kind signals = table kind (map (λ signal. signal.start) signals)

abbrev pub gate_finish : Kind → List Signal → Level
gate_finish kind signals = table kind (map (λ signal. signal.finish) signals)

-- the signal of a gate's output
abbrev pub gate_signal : Kind → Delay → List Signal → Signal
gate_signal kind delay signals = record {
  start = gate_start kind signals;
  finish = gate_finish kind signals;
  changes = gate_changes (controlling kind) delay (gate_start kind signals) (gate_finish kind signals) signals (hull signals);
}

-- the domain of arrival windows
abbrev pub arrival_functions : Functions Signal
arrival_functions = record {
  input_of = input_signal;
  constant_of = constant_signal;
  gate_of = gate_signal;
  last_of = last_of;
}
