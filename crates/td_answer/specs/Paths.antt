-- What is true of the outcome of `path`.
use Rattle.std.specs.Prelude.{◌≡◌, ℕ, List, [], ◌∷◌, ◌++◌, Option, Some, None}
use Rattle.std.specs.Borrow.{Bor}
use Rattle.std.specs.List.{Contains}
use Rattle.td_gates.specs.Wave.{Wave}
use Rattle.td_nets.specs.Netlist.{Name, Net, Netlist}
use Rattle.td_nets.specs.Printed.{printed}
use Rattle.td_source.specs.Reads.{HasNoneNamed}
use Rattle.td_circuit.specs.Settings.{Setting}
use Rattle.td_reading.specs.declared.reading.Reading.{Reading}
use Rattle.td_request.specs.declared.request.Path.{Path}
use Rattle.td_lines.specs.declared.line.Line.{Line}
use Rattle.td_answer.specs.Heads.{head_lines}
use Rattle.td_answer.specs.Runs.{TellsOutput, TellsLatest}
use Rattle.td_answer.specs.Simulations.{IsSimulated, IsRefusedRun}
use Rattle.td_answer.specs.declared.outcome.Outcome.{Outcome}
use Rattle.td_answer.specs.declared.refusal.Refusal.{Refusal}
use Rattle.td_answer.specs.declared.refusal.Refusal.TheVariants as refusal
use Rattle.td_answer.specs.declared.status.Status.TheVariants.{Done}

-- the word is how reports name this output of the netlist
pub record IsNamedSo (netlist : Netlist) (word : List ℕ) (output : Name) : Type 0 where
  pub is_output : Contains netlist.outputs output
  pub spelled : printed output ≡ word

-- The lines tell why the output of this name changes last when it does, or where none is named, the
-- one that changes last.
abbrev pub TellsPath : Setting → (Net → Wave) → Option (Bor (List ℕ)) → List Line → Type 0
TellsPath setting waves (Some word) lines = (output : Name) × IsNamedSo setting.netlist word.now output × TellsOutput setting waves output lines
TellsPath setting waves None lines = (told : Line) × TellsLatest setting waves told × (lines ≡ told ∷ [])

-- the report has the head, and these lines
pub record ReportsPath (setting : Setting) (waves : Net → Wave) (output : Option (Bor (List ℕ))) (report : List Line) : Type 0 where
  pub lines : List Line
  pub tells : TellsPath setting waves output lines
  pub is : report ≡ head_lines setting.netlist ++ lines

-- the report is that of the run of what the request asks of the text
pub record IsTruePath (text : List ℕ) (reading : Reading) (asked : Path) (outcome : Outcome) : Type 0 where
  pub setting : Setting
  pub waves : Net → Wave
  pub simulated : IsSimulated text reading asked.inputs asked.from.now asked.to.now setting waves
  pub report : ReportsPath setting waves asked.output outcome.report
  pub ends : outcome.status ≡ Done

-- the text and the words give a run, and no output has this name
pub record NamesNoOutput (text : List ℕ) (reading : Reading) (asked : Path) (word : List ℕ) : Type 0 where
  pub setting : Setting
  pub waves : Net → Wave
  pub simulated : IsSimulated text reading asked.inputs asked.from.now asked.to.now setting waves
  pub none : HasNoneNamed setting.netlist word

-- the refusal names the output that is asked for
abbrev pub IsMissing : List ℕ → Reading → Path → Option (Bor (List ℕ)) → Bor (List ℕ) → Type 0
IsMissing text reading asked None reported = ⊥
IsMissing text reading asked (Some word) reported = (reported ≡ word) × NamesNoOutput text reading asked word.now

abbrev pub IsRefusedPath : List ℕ → Reading → Path → Refusal → Type 0
IsRefusedPath text reading asked (refusal.NoOutput word) = IsMissing text reading asked asked.output word
IsRefusedPath text reading asked other = IsRefusedRun text reading asked.inputs asked.from.now asked.to.now other
