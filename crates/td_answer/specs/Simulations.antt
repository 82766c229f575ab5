-- What is true of the outcome of `sim`.
use Rattle.std.specs.Prelude.{◌≡◌, ◌≢◌, ℕ, ◌<◌, max, Bool, true, List, [], ◌∷◌, ◌++◌, map, slice_get, is_some, unwrap_or, Option, None, Some}
use Rattle.td_gates.specs.Wave.{Wave}
use Rattle.td_gates.specs.declared.primitives.Level.{Level}
use Rattle.td_nets.specs.Netlist.{Net, Named, Netlist}
use Rattle.td_circuit.specs.Settings.{Setting}
use Rattle.td_circuit.specs.Run.{Runs, latest_change}
use Rattle.td_circuit.specs.Numbering.{Numbered, nets, setting}
use Rattle.td_run.specs.Runs.{NetWaves}
use Rattle.td_path.specs.Chains as chains
use Rattle.td_vcd.specs.Writes as writes
use Rattle.td_reading.specs.declared.reading.Reading.{Reading}
use Rattle.td_request.specs.declared.question.Inputs.{Inputs}
use Rattle.td_request.specs.declared.request.Sim.{Sim}
use Rattle.td_question.specs.Asking.{IsPair, IsFaultOf, vector_words}
use Rattle.td_lines.specs.declared.line.Last.{Last}
use Rattle.td_lines.specs.declared.line.Line.{Line}
use Rattle.td_lines.specs.declared.line.Line.TheVariants as line
use Rattle.td_answer.specs.Heads.{head_lines}
use Rattle.td_answer.specs.Runs.{last_of, AreLasts, TellsLast}
use Rattle.td_question.specs.declared.fault.QuestionFault.{QuestionFault}
use Rattle.td_question.specs.declared.fault.QuestionFault.TheVariants as fault
use Rattle.td_question.specs.declared.quote.Quote.{Quote}
use Rattle.td_question.specs.Choosing.{IsUnnamed}
use Rattle.td_answer.specs.Dumps.{IsDumpOf}
use Rattle.td_answer.specs.declared.outcome.Outcome.{Outcome}
use Rattle.td_answer.specs.declared.refusal.Refusal.{Refusal}
use Rattle.td_answer.specs.declared.refusal.Refusal.TheVariants as refusal
use Rattle.td_answer.specs.declared.status.Status.TheVariants.{Done}

-- What the words ask of the text is this setting, and the waves are those of its run under the
-- vectors that two words spell.
pub record IsSimulated (text : List ℕ) (reading : Reading) (inputs : Inputs) (from to : List ℕ) (setting : Setting) (waves : Net → Wave) : Type 0 where
  pub first : List Level
  pub second : List Level
  pub pair : IsPair text reading inputs from to setting first second
  pub runs : Runs setting first second waves

-- Internal: the run is one of the circuit.
pub record HasRun (circuit : Numbered) (run : NetWaves) : Type 0 where
  pub written : writes.IsRunFor circuit run
  pub followed : chains.IsRunFor circuit run

-- the report has the head, when each output changes last in the run, the latest of these moments,
-- and where it is asked for, which output changes then
pub record IsRunReport (outputs : Bool) (netlist : Netlist) (waves : Net → Wave) (report : List Line) : Type 0 where
  pub lasts : List Line
  pub are_lasts : AreLasts (map (last_of waves) netlist.outputs) lasts
  pub named : List Line
  pub tells : TellsLast outputs netlist waves named
  pub is : report ≡ head_lines netlist ++ lasts ++ line.Time (latest_change (map (λ name. waves (Named name)) netlist.outputs)) ∷ named

-- the report is that of the run, and the dump that is asked for has its waves
pub record IsTrueSim (text : List ℕ) (reading : Reading) (asked : Sim) (outcome : Outcome) : Type 0 where
  pub setting : Setting
  pub waves : Net → Wave
  pub simulated : IsSimulated text reading asked.inputs asked.from.now asked.to.now setting waves
  pub report : IsRunReport asked.outputs setting.netlist waves outcome.report
  pub dumped : IsDumpOf (is_some asked.dump) asked.nets setting (IsSimulated text reading asked.inputs asked.from.now asked.to.now setting) outcome.dump
  pub ends : outcome.status ≡ Done

-- why there is no run
abbrev pub IsRefusedRun : List ℕ → Reading → Inputs → List ℕ → List ℕ → Refusal → Type 0
IsRefusedRun text reading inputs from to refusal.OutOfMemory = Unit {0}
IsRefusedRun text reading inputs from to refusal.OutOfTime = Unit {0}
IsRefusedRun text reading inputs from to (refusal.Question found) = IsFaultOf text reading inputs (vector_words from to) found
IsRefusedRun text reading inputs from to other = ⊥

-- the quote is the first of the words that names no net of the circuit
abbrev pub QuotesUnnamed : Numbered → List (List ℕ) → Quote → Type 0
QuotesUnnamed circuit words quote = (quote.line ≡ None) × IsUnnamed circuit words quote.text.now

-- the text and the words give a run, and this word is the first that names no net
pub record NamesNoNet (text : List ℕ) (reading : Reading) (asked : Sim) (quote : Quote) : Type 0 where
  pub circuit : Numbered
  pub first : List Level
  pub second : List Level
  pub pair : IsPair text reading asked.inputs asked.from.now asked.to.now (setting circuit) first second
  pub unnamed : QuotesUnnamed circuit asked.nets quote

-- why a question about a run has no outcome
abbrev pub IsFaultOfSim : List ℕ → Reading → Sim → QuestionFault → Type 0
IsFaultOfSim text reading asked (fault.NoNet quote) = NamesNoNet text reading asked quote
IsFaultOfSim text reading asked found = IsFaultOf text reading asked.inputs (vector_words asked.from.now asked.to.now) found

abbrev pub IsRefusedSim : List ℕ → Reading → Sim → Refusal → Type 0
IsRefusedSim text reading asked (refusal.Question found) = IsFaultOfSim text reading asked found
IsRefusedSim text reading asked reason = IsRefusedRun text reading asked.inputs asked.from.now asked.to.now reason

-- ---- internal

-- the moments are those of the nets' last changes in the run
abbrev pub AreLastsOf : Numbered → (Net → Wave) → List Last → Type 0
AreLastsOf circuit waves rows = rows ≡ map (last_of waves) circuit.netlist.outputs

-- the latest of these moments, 0 where there is none
abbrev pub latest_in : List Last → ℕ
latest_in [] = 0
latest_in (row ∷ rows) = max (unwrap_or row.moment 0) (latest_in rows)

-- this is the place of the first row with a moment, if there is one
abbrev pub IsFirstRow : List Last → ℕ → Option ℕ → Type 0
IsFirstRow rows moment None = (k : ℕ) (row : Last) → slice_get rows k ≡ Some row → row.moment ≢ Some moment
IsFirstRow rows moment (Some place) =
    ((row : Last) × (slice_get rows place ≡ Some row) × (row.moment ≡ Some moment))
    × ((k : ℕ) (row : Last) → k < place → slice_get rows k ≡ Some row → row.moment ≢ Some moment)

abbrev pub told_lines : Option Line → List Line
told_lines None = []
told_lines (Some told) = told ∷ []

-- in each run with these rows, the lines tell which output changes last, where it is asked for
abbrev pub TellLastOf : Bool → Numbered → List Last → List Line → Type 0
TellLastOf outputs circuit rows lines =
    (waves : Net → Wave) → AreLastsOf circuit waves rows → TellsLast outputs circuit.netlist waves lines

-- the report and the dump are those of a run of these vectors
pub record IsKeptOutcome (circuit : Numbered) (first second : List Level) (asked : Sim) (outcome : Outcome) : Type 0 where
  pub waves : Net → Wave
  pub runs : Runs (setting circuit) first second waves
  pub report : IsRunReport asked.outputs circuit.netlist waves outcome.report
  pub dumped : IsDumpOf (is_some asked.dump) asked.nets (setting circuit) (Runs (setting circuit) first second) outcome.dump
  pub certified : outcome.certificate ≡ None
  pub ends : outcome.status ≡ Done
