-- What is true of the outcome of a search for each output.
use Rattle.std.specs.Prelude.{◌≡◌, ℕ, Bool, true, false, ◌&&◌, not, cond, List, [], ◌∷◌, ◌++◌, Option, Some, None}
use Rattle.std.specs.List.{AllZip}
use Rattle.td_nets.specs.Netlist.{Name}
use Rattle.td_reading.specs.declared.reading.Reading.{Reading}
use Rattle.td_source.specs.Each.{alone}
use Rattle.td_circuit.specs.Settings.{Setting}
use Rattle.td_domain.specs.Pairs.{Pair}
use Rattle.td_domain.specs.Admits.{Admitted, IsAdmitted}
use Rattle.td_refutation.specs.Asking.{Asking}
use Rattle.td_certificate.specs.declared.tree.BoundedBy.TheVariants as by
use Rattle.td_refute.specs.Kept.{IsBoundAmong}
use Rattle.td_search.specs.declared.answers.SearchFault.TheVariants as failed
use Rattle.td_request.specs.declared.request.Search.{Search}
use Rattle.td_question.specs.Asking.{IsAskedKeeping}
use Rattle.td_lines.specs.declared.line.Found.{Found}
use Rattle.td_lines.specs.declared.line.Requirement.{Requirement}
use Rattle.td_lines.specs.declared.line.Row.{Row}
use Rattle.td_lines.specs.declared.line.Standing.{Standing}
use Rattle.td_lines.specs.declared.line.Standing.TheVariants as standing
use Rattle.td_lines.specs.declared.line.Line.{Line}
use Rattle.td_lines.specs.declared.line.Line.TheVariants as line
use Rattle.td_answer.specs.Bounds.{IsSoundBound}
use Rattle.td_answer.specs.Heads.{head_lines}
use Rattle.td_answer.specs.Kept.{HasDelayAmong}
use Rattle.td_answer.specs.Names.{label}
use Rattle.td_answer.specs.Requirements.{IsStanding, requirement_of}
use Rattle.td_answer.specs.Rows.{HasRows}
use Rattle.td_answer.specs.Findings.{IsTrueFound, is_closed}
use Rattle.td_answer.specs.Columns.{HasChanges, asks_figures, are_closed}
use Rattle.td_answer.specs.Sightings.{HasVectors}
use Rattle.td_answer.specs.declared.outcome.Outcome.{Outcome}
use Rattle.td_answer.specs.declared.refusal.Refusal.{Refusal}
use Rattle.td_answer.specs.declared.refusal.Refusal.TheVariants as refusal
use Rattle.td_answer.specs.declared.status.Status.{Status}
use Rattle.td_answer.specs.declared.status.Status.TheVariants as status

-- it is the bound by edges of the pins, after which no pair of them changes an output
abbrev pub IsTrueBound : Setting → Admitted → Option ℕ → Type 0
IsTrueBound setting admit bound = IsSoundBound by.Edges setting admit.pins bound

-- the figures and the bound by edges are true of the pairs that are asked about in this setting
pub record AreTrueFigures (setting : Setting) (asking : Asking) (figures : Found) (edges : Option ℕ) : Type 0 where
  pub figure : IsTrueFound setting asking figures
  pub bound : IsTrueBound setting asking.admit edges

-- one of the pairs that are asked about has this delay
abbrev pub SomeHas : Setting → Asking → ℕ → Type 0
SomeHas setting asking delay = (pair : Pair) × HasDelayAmong setting asking pair delay

-- The row says how the required moment stands where there is one: it is met only where no pair that is
-- asked about is later, and violated only where one is.
abbrev pub SaysStanding : Setting → Asking → Option ℕ → Option Requirement → Type 0
SaysStanding setting asking None said = said ≡ None
SaysStanding setting asking (Some moment) None = ⊥
SaysStanding setting asking (Some moment) (Some said) =
    (said.moment ≡ moment) × IsStanding (IsBoundAmong setting asking) (SomeHas setting asking) moment said.standing

-- The row is about the output of this name, and true where the netlist has this output alone; it has a
-- pair that shows its figure, and the columns of changes, where the table asks for them, and says how the
-- required moment stands by its figures.
pub record IsTrueRow (setting : Setting) (asking : Asking) (search : Search) (output : Name) (row : Row) : Type 0 where
  pub named : row.output ≡ label output
  pub figures : AreTrueFigures (alone setting output) asking row.found row.edges
  pub pair : HasVectors search.shown.vectors (alone setting output) asking row.found row.pair
  pub changes : HasChanges search.table (alone setting output) asking row.changes
  pub by_figures : row.required ≡ requirement_of search.required row.found
  pub stands : SaysStanding (alone setting output) asking search.required row.required

-- the line of the rows, where there are any
abbrev pub AreEach : List Row → List Line → Type 0
AreEach = HasRows (λ rows. line.Each rows)

abbrev pub is_open : Standing → Bool
is_open standing.Met = false
is_open standing.Violated = false
is_open standing.Open = true

abbrev pub is_late : Standing → Bool
is_late standing.Met = false
is_late standing.Violated = true
is_late standing.Open = false

-- it is known how the required moment stands, or else the figure is
abbrev pub is_settled : Option Requirement → Found → Bool
is_settled None known = is_closed known
is_settled (Some required) known = not (is_open required.standing)

-- nothing is left open of a row; the figure of a glitch only where it is asked for
abbrev pub is_closed_row : Bool → Row → Bool
is_closed_row figures row = is_settled row.required row.found && are_closed figures row.changes

-- some search was cut short, or nothing is left open
abbrev pub open_ending : Bool → List Row → Status
open_ending figures [] = status.Done
open_ending figures (row ∷ rows) = cond (is_closed_row figures row) (open_ending figures rows) status.Between

abbrev pub is_violated : Option Requirement → Bool
is_violated None = false
is_violated (Some required) = is_late required.standing

-- some output is later than the required moment
abbrev pub any_violated : List Row → Bool
any_violated [] = false
any_violated (row ∷ rows) = cond (is_violated row.required) true (any_violated rows)

-- the required moment is violated, or some search was cut short, or nothing is left open
abbrev pub table_ending : Bool → List Row → Status
table_ending figures rows = cond (any_violated rows) status.Violated (open_ending figures rows)

-- The words ask about a circuit of the text and pairs of it, and the report has a true row for each of
-- its outputs, in order. It ends with status 0 just where none of them is violated or leaves anything
-- open.
pub record IsTrueTable (text : List ℕ) (reading : Reading) (search : Search) (outcome : Outcome) : Type 0 where
  pub setting : Setting
  pub asking : Asking
  pub asked : IsAskedKeeping text reading search.question setting asking
  pub rows : List Row
  pub are_rows : AllZip (IsTrueRow setting asking search) setting.netlist.outputs rows
  pub lines : List Line
  pub has : AreEach rows lines
  pub is : outcome.report ≡ head_lines setting.netlist ++ lines
  pub ends : outcome.status ≡ table_ending (asks_figures search.table) rows

-- a watch heard of the rows of the report, where there are any
abbrev pub HeardRows : (List Row → Type 0) → List Line → Type 0
HeardRows Heard report = (rows : List Row) × (front lines : List Line) × AreEach rows lines × (report ≡ front ++ lines) × Heard rows

-- why the search for an output has no answer
abbrev pub IsUnanswered : Admitted → Refusal → Type 0
IsUnanswered admit refusal.OutOfMemory = Unit {0}
IsUnanswered admit (refusal.Search failed.NoPair) = (pair : Pair) → ¬ IsAdmitted admit pair
IsUnanswered admit (refusal.Search failed.OutOfMemory) = Unit {0}
IsUnanswered admit other = ⊥
