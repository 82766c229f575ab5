-- Laws: what is proved of the definitions.
use Rattle.std.specs.Prelude.{◌≡◌, ℕ, ◌*◌, ◌<◌, Bool, true, List, [], ◌∷◌, ◌++◌, length}
use Rattle.td_circuit.specs.Settings.{AreMoments}
use Rattle.td_circuit.specs.Numbering.{Numbered, IsNumbering}
use Rattle.td_domain.specs.declared.cubes.Trit.{Trit}
use Rattle.td_domain.specs.Admits.{Admitted}
use Rattle.td_propagation.specs.declared.literal.Literal.{Literal}
use Rattle.td_propagation.specs.declared.clauses.Outcome.TheVariants.{Shown}
use Rattle.td_spans.specs.Hints.{shown_at}
use Rattle.td_spans.specs.Endings.{ends_empty}
use Rattle.td_spans.specs.Lookups.{IsDriven, driver}
use Rattle.td_spans.specs.Bounds.{IsUpperBoundOf, AreQuietAfter, HasNone}
use Rattle.td_spans.specs.Conditions.{Asked}
use Rattle.td_gates.specs.declared.primitives.Level.TheVariants.{One}
use Rattle.td_gates.specs.Table.{level_eq}
use Rattle.td_gates.specs.Wave.{Wave, before}
use Rattle.td_domain.specs.Waves.{IsBoolean}
use Rattle.td_edges.specs.declared.signals.Signal.{Signal}
use Rattle.td_edges.specs.Coverage.{EdgesCover}
use Rattle.td_spans.specs.declared.times.Times.{Times}
use Rattle.td_spans.specs.declared.variable.Variable.{Variable}
use Rattle.td_spans.specs.declared.reason.Reason.{Reason}
use Rattle.td_spans.specs.Times.{AreTimes}
use Rattle.td_spans.specs.Signals.{times_from, first_times}
use Rattle.td_spans.specs.Lowering.{lower, are_at_rest, again, latest_of}
use Rattle.td_spans.specs.Opening.{AreFirst}
use Rattle.td_spans.specs.Named.{IsNamed}
use Rattle.td_spans.specs.Refuting.{Refutes}

-- What covers a wave by edges gives times that are right for it: the net ends at some level.
abbrev pub EdgesGiveTimes : Type 0
EdgesGiveTimes = (signal : Signal) (wave : Wave) → EdgesCover signal wave → IsBoolean wave
    → (final : Bool) × AreTimes (times_from signal) (λ n. level_eq One (before wave n)) final

-- The first times are those that the signals of edges give, net by net.
abbrev pub FirstTimesAreByEdges : Type 0
FirstTimesAreByEdges = (circuit : Numbered) → IsNumbering circuit → (admit : Admitted) (cube : List Trit)
    → AreFirst circuit admit cube (first_times circuit admit cube)

-- the lists fit the circuit
pub record IsAsked (circuit : Numbered) (asked : Asked) (cube : List Trit) : Type 0 where
  pub numbering : IsNumbering circuit
  pub moments : AreMoments circuit.netlist circuit.moments
  pub whole : length cube ≡ 2 * length circuit.netlist.inputs
  pub held : length asked.admit.held ≡ length circuit.netlist.inputs

-- The first times refute nothing yet.
abbrev pub FirstTimesRefute : Type 0
FirstTimesRefute = (circuit : Numbered) (asked : Asked) (cube : List Trit) (variables : List Variable) → IsAsked circuit asked cube
    → Refutes circuit asked cube variables (first_times circuit asked.admit cube) []

-- Each step that is good keeps what is true of the runs: a clause for which there is a reason, one
-- that hints show, an end that is lower by a clause that hints show, and one by its gate.
pub record StepsRefute : Type 0 where
  pub named : (circuit : Numbered) (asked : Asked) (cube : List Trit) (variables : List Variable) → IsAsked circuit asked cube
      → (times : List Times) (clauses : List (List Literal)) → Refutes circuit asked cube variables times clauses
      → (reason : Reason) (clause : List Literal) → IsNamed circuit asked cube variables times reason clause
      → Refutes circuit asked cube variables times (clauses ++ clause ∷ [])
  pub shown : (circuit : Numbered) (asked : Asked) (cube : List Trit) (variables : List Variable) → IsAsked circuit asked cube
      → (times : List Times) (clauses : List (List Literal)) → Refutes circuit asked cube variables times clauses
      → (count : ℕ) (clause : List Literal) (hints : List ℕ) → shown_at clauses count clause hints ≡ Shown
      → Refutes circuit asked cube variables times (clauses ++ clause ∷ [])
  pub lowered : (circuit : Numbered) (asked : Asked) (cube : List Trit) (variables : List Variable) → IsAsked circuit asked cube
      → (times : List Times) (clauses : List (List Literal)) → Refutes circuit asked cube variables times clauses
      → (net : ℕ) (level : Bool) (place count : ℕ) (clause : List Literal) (hints : List ℕ) → net < length times
      → are_at_rest variables net level place clause ≡ true → shown_at clauses count clause hints ≡ Shown
      → Refutes circuit asked cube variables (lower times net level place) clauses
  pub again : (circuit : Numbered) (asked : Asked) (cube : List Trit) (variables : List Variable) → IsAsked circuit asked cube
      → (times : List Times) (clauses : List (List Literal)) → Refutes circuit asked cube variables times clauses
      → (net : ℕ) → IsDriven circuit net → net < length times
      → Refutes circuit asked cube variables (again times net (driver circuit net)) clauses

-- In the end no pair of the cube that is asked about has a delay above the latest moment by the
-- outputs' ends.
abbrev pub RefutedIsBounded : Type 0
RefutedIsBounded = (circuit : Numbered) (asked : Asked) (cube : List Trit) (variables : List Variable) → IsAsked circuit asked cube
    → (times : List Times) (clauses : List (List Literal)) → Refutes circuit asked cube variables times clauses
    → IsUpperBoundOf circuit asked cube (latest_of times circuit.outputs)

-- In none of their runs a net changes later than its ends say.
abbrev pub NetsAreQuiet : Type 0
NetsAreQuiet = (circuit : Numbered) (asked : Asked) (cube : List Trit) (variables : List Variable) → IsAsked circuit asked cube
    → (times : List Times) (clauses : List (List Literal)) → Refutes circuit asked cube variables times clauses
    → (numbers : List ℕ) → AreQuietAfter circuit asked cube numbers (latest_of times numbers)

-- Where the last clause is empty, no pair of the cube is asked about.
abbrev pub EmptyHasNone : Type 0
EmptyHasNone = (circuit : Numbered) (asked : Asked) (cube : List Trit) (variables : List Variable) → IsAsked circuit asked cube
    → (times : List Times) (clauses : List (List Literal)) → Refutes circuit asked cube variables times clauses
    → ends_empty clauses ≡ true → HasNone circuit asked cube
