-- When an output changes first, by edges.
use Rattle.std.specs.Prelude.{◌≡◌, ⊤, ℕ, ◌<◌, Bool, true, false, List, [], ◌∷◌, map, Option, Some, None}
use Rattle.std.specs.List.{Contains}
use Rattle.td_gates.specs.Table.{level_from}
use Rattle.td_gates.specs.Wave.{Wave, at, before}
use Rattle.td_nets.specs.Netlist.{Name, Net, Named}
use Rattle.td_circuit.specs.Run.{Runs}
use Rattle.td_circuit.specs.Settings.{Setting}
use Rattle.td_domain.specs.declared.cubes.Trit.{Trit}
use Rattle.td_domain.specs.Bounds.{AreSignals}
use Rattle.td_domain.specs.Cubes.{IsIn}
use Rattle.td_domain.specs.Pairs.{Pair}
use Rattle.td_edges.specs.declared.signals.Signal.{Signal}
use Rattle.td_edges.specs.declared.signals.Span.{Span}
use Rattle.td_edges.specs.EdgeSignals.{edge_functions}
use Rattle.td_spans.specs.Pieces.{nearest}
use Rattle.td_lines.specs.declared.line.Figure.TheVariants as figure
use Rattle.td_lines.specs.declared.line.Line.{Line}
use Rattle.td_lines.specs.declared.line.Line.TheVariants as line

abbrev pub earliest_in : Option Span → Option ℕ
earliest_in None = None
earliest_in (Some span) = Some span.earliest

-- the earliest change of a signal, none where it never changes
abbrev pub first_change : Signal → Option ℕ
first_change signal = earliest_in signal.changes

-- the soonest of moments, none where there are none
abbrev pub soonest : List (Option ℕ) → Option ℕ
soonest [] = None
soonest (moment ∷ moments) = nearest moment (soonest moments)

-- by edges, the earliest change of an output for a cube of pairs, none where no output changes
pub record IsStart (setting : Setting) (cube : List Trit) (start : Option ℕ) : Type 0 where
  pub signals : Net → Signal
  pub are_signals : AreSignals edge_functions setting cube signals
  pub is_soonest : start ≡ soonest (map (λ name. first_change (signals (Named name))) setting.netlist.outputs)

-- the moment is before the start, as each is where there is none
abbrev pub IsBefore : Option ℕ → ℕ → Type 0
IsBefore None t = ⊤
IsBefore (Some start) t = t < start

-- before the start no output changes in the run of a pair of the cube
abbrev pub IsQuietUntil : Setting → List Trit → Option ℕ → Type 0
IsQuietUntil setting cube start = (pair : Pair) (waves : Net → Wave) → IsIn pair cube
    → Runs setting (map level_from pair.first) (map level_from pair.second) waves
    → (output : Name) → Contains setting.netlist.outputs output
    → (t : ℕ) → IsBefore start t → at (waves (Named output)) t ≡ before (waves (Named output)) t

-- the start of a cube of pairs by edges: no pair of the cube changes an output before it
pub record IsSoundStart (setting : Setting) (cube : List Trit) (start : Option ℕ) : Type 0 where
  pub is : IsStart setting cube start
  pub sound : IsQuietUntil setting cube start

-- the line of the start is there where it is asked for, and nowhere else
abbrev pub TellsStart : Bool → Setting → List Trit → List Line → Type 0
TellsStart false setting cube lines = lines ≡ []
TellsStart true setting cube lines =
    (start : Option ℕ) × IsSoundStart setting cube start × (lines ≡ line.Bound figure.Earliest start ∷ [])
