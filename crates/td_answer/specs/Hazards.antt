-- What is true of the outcome of a search for the hazards of each output.
use Rattle.std.specs.Prelude.{◌≡◌, ℕ, ◌<◌, Bool, true, false, cond, List, [], ◌∷◌, ◌++◌}
use Rattle.std.specs.List.{AllZip, flat_map}
use Rattle.td_gates.specs.declared.primitives.Level.TheVariants.{Zero, One}
use Rattle.td_nets.specs.Netlist.{Name}
use Rattle.td_reading.specs.declared.reading.Reading.{Reading}
use Rattle.td_source.specs.Each.{alone}
use Rattle.td_circuit.specs.Settings.{Setting}
use Rattle.td_domain.specs.Pairs.{Pair}
use Rattle.td_spans.specs.declared.condition.Form.{Form}
use Rattle.td_spans.specs.declared.condition.Form.TheVariants.{Levels}
use Rattle.td_refutation.specs.Asking.{Asking}
use Rattle.td_refute.specs.Kept.{IsBoundAmong, AsksNone}
use Rattle.td_request.specs.declared.request.Search.{Search}
use Rattle.td_question.specs.Asking.{IsAskedKeeping}
use Rattle.td_lines.specs.declared.line.Hazard.{Hazard}
use Rattle.td_lines.specs.declared.line.Hazard.TheVariants as hazard
use Rattle.td_lines.specs.declared.line.HazardRow.{HazardRow}
use Rattle.td_lines.specs.declared.line.Line.{Line}
use Rattle.td_lines.specs.declared.line.Line.TheVariants as line
use Rattle.td_answer.specs.Columns.{IsOnlyOutput, where_settles}
use Rattle.td_answer.specs.Heads.{head_lines}
use Rattle.td_answer.specs.Kept.{HasDelayAmong}
use Rattle.td_answer.specs.Names.{label}
use Rattle.td_answer.specs.Rows.{HasRows}
use Rattle.td_answer.specs.declared.outcome.Outcome.{Outcome}
use Rattle.td_answer.specs.declared.status.Status.{Status}
use Rattle.td_answer.specs.declared.status.Status.TheVariants as status

-- the pair is one of those asked about, and changes an output after moment 0
pub record IsLate (setting : Setting) (asking : Asking) (pair : Pair) : Type 0 where
  pub delay : ℕ
  pub has : HasDelayAmong setting asking pair delay
  pub late : 0 < delay

-- A pair that is asked about changes an output after moment 0, and is shown; or none of them does; or
-- none is there.
abbrev pub IsTrueHazard : Setting → Asking → Hazard → Type 0
IsTrueHazard setting asking (hazard.Can from to) = IsLate setting asking (record { first = from; second = to })
IsTrueHazard setting asking hazard.Never = IsBoundAmong setting asking 0
IsTrueHazard setting asking hazard.NoPair = AsksNone setting asking
IsTrueHazard setting asking hazard.Open = Unit {0}

-- an output settles at this level under both vectors
abbrev pub settles_at : Bool → Form
settles_at false = Levels Zero Zero
settles_at true = Levels One One

-- The row is about the output of this name and this level, and true of the pairs under which the
-- output settles at it, where the netlist has this output alone.
pub record IsTrueHazardRow (setting : Setting) (asking : Asking) (about : Name × Bool) (row : HazardRow) : Type 0 where
  pub named : row.output ≡ label about.0
  pub level : row.level ≡ about.1
  pub net : ℕ
  pub output : IsOnlyOutput (alone setting about.0).netlist net
  pub says : IsTrueHazard (alone setting about.0) (where_settles asking net (settles_at about.1)) row.hazard

-- each output with 0, and then with 1
abbrev pub at_both : Name → List (Name × Bool)
at_both output = (output, false) ∷ (output, true) ∷ []

abbrev pub all_at_both : List Name → List (Name × Bool)
all_at_both outputs = flat_map at_both outputs

-- the line of the rows, where there are any
abbrev pub AreHazards : List HazardRow → List Line → Type 0
AreHazards = HasRows (λ rows. line.Hazards rows)

abbrev pub is_open : Hazard → Bool
is_open (hazard.Can from to) = false
is_open hazard.Never = false
is_open hazard.NoPair = false
is_open hazard.Open = true

-- some search was cut short, or nothing is left open
abbrev pub hazards_ending : List HazardRow → Status
hazards_ending [] = status.Done
hazards_ending (row ∷ rows) = cond (is_open row.hazard) status.Between (hazards_ending rows)

-- The words ask about a circuit of the text and pairs of it, and the report has two true rows for each
-- of its outputs, in order. It ends with status 0 just where none of them is open.
pub record AreTrueHazards (text : List ℕ) (reading : Reading) (search : Search) (outcome : Outcome) : Type 0 where
  pub setting : Setting
  pub asking : Asking
  pub asked : IsAskedKeeping text reading search.question setting asking
  pub rows : List HazardRow
  pub are_rows : AllZip (IsTrueHazardRow setting asking) (all_at_both setting.netlist.outputs) rows
  pub lines : List Line
  pub has : AreHazards rows lines
  pub is : outcome.report ≡ head_lines setting.netlist ++ lines
  pub ends : outcome.status ≡ hazards_ending rows
