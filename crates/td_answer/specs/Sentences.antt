-- What is true of the outcome of a search: the sentence at the top.
use Rattle.std.specs.Prelude.{◌≡◌, ◌⊎◌, ◌≤◌, ℕ, List, ◌∷◌, ◌++◌, is_some}
use Rattle.td_circuit.specs.Settings.{Setting}
use Rattle.td_circuit.specs.Run.{IsDelayOfBits}
use Rattle.td_domain.specs.Pairs.{Pair}
use Rattle.td_domain.specs.Admits.{Admitted, IsAdmitted}
use Rattle.td_domain.specs.Worst.{IsUpperBound, IsWorst}
use Rattle.td_reading.specs.declared.reading.Reading.{Reading}
use Rattle.td_request.specs.declared.request.Search.{Search}
use Rattle.td_question.specs.Asking.{IsAsked}
use Rattle.td_lines.specs.declared.line.Cause.{Cause}
use Rattle.td_lines.specs.declared.line.Line.{Line}
use Rattle.td_lines.specs.declared.line.Line.TheVariants as line
use Rattle.td_answer.specs.Ends.{TellsWork}
use Rattle.td_answer.specs.Heads.{head_lines}
use Rattle.td_answer.specs.Requirements.{TellsRequired}
use Rattle.td_answer.specs.Runs.{TellsPair, RunsPair}
use Rattle.td_answer.specs.Dumps.{IsDumpWhere}
use Rattle.td_answer.specs.declared.outcome.Outcome.{Outcome}
use Rattle.td_answer.specs.declared.status.Status.{Status}
use Rattle.td_answer.specs.declared.status.Status.TheVariants as status

-- the pair is admitted, and its delay is this
pub record HasDelay (setting : Setting) (admit : Admitted) (pair : Pair) (delay : ℕ) : Type 0 where
  pub admitted : IsAdmitted admit pair
  pub delays : IsDelayOfBits setting pair.first pair.second delay

-- The first line is `exact N`, and N is the worst delay of the admitted pairs. The pair on the next
-- lines is admitted and has it. After the nodes
-- come what the search took, if that is asked for, what is required, and what is asked of its run.
pub record IsExact (setting : Setting) (admit : Admitted) (search : Search) (pair : Pair) (lines : List Line) (ending : Status) : Type 0 where
  pub time : ℕ
  pub nodes : ℕ
  pub used : List Line
  pub required : List Line
  pub more : List Line
  pub printed : lines ≡ line.Exact time ∷ line.From pair.first ∷ line.To pair.second ∷ line.Nodes nodes ∷ ((used ++ required) ++ more)
  pub worst : IsWorst setting admit time
  pub has : HasDelay setting admit pair time
  pub stands : TellsRequired (IsUpperBound setting admit) (HasDelay setting admit pair) status.Done time time search.required required ending
  pub took : TellsWork search.shown.work used
  pub tells : TellsPair search.shown setting pair more

-- It is `between L H`: the pair that follows is admitted and has L, and no admitted pair is later
-- than H.
pub record IsBetween (setting : Setting) (admit : Admitted) (search : Search) (pair : Pair) (lines : List Line) (ending : Status) : Type 0 where
  pub low : ℕ
  pub high : ℕ
  pub cause : Cause
  pub nodes : ℕ
  pub used : List Line
  pub required : List Line
  pub more : List Line
  pub printed : lines ≡ line.Between low high ∷ line.Cause cause ∷ line.From pair.first ∷ line.To pair.second ∷ line.Nodes nodes ∷ ((used ++ required) ++ more)
  pub has : HasDelay setting admit pair low
  pub greatest : IsUpperBound setting admit high
  pub ordered : low ≤ high
  pub stands : TellsRequired (IsUpperBound setting admit) (HasDelay setting admit pair) status.Between low high search.required required ending
  pub took : TellsWork search.shown.work used
  pub tells : TellsPair search.shown setting pair more

-- where nothing is required, the search ends with status 0 just where its figure is exact
abbrev pub HasFigure : Setting → Admitted → Search → Pair → List Line → Status → Type 0
HasFigure setting admit search pair lines ending = IsExact setting admit search pair lines ending ⊎ IsBetween setting admit search pair lines ending

-- What the request asks of the text is this setting and which pairs are admitted; the report begins
-- with the head of its netlist, and what follows is true of it. The dump that is asked for has the
-- waves of the printed pair.
pub record IsTrueWorst (text : List ℕ) (reading : Reading) (search : Search) (outcome : Outcome) : Type 0 where
  pub setting : Setting
  pub admit : Admitted
  pub asked : IsAsked text reading search.question setting admit
  pub pair : Pair
  pub lines : List Line
  pub is : outcome.report ≡ head_lines setting.netlist ++ lines
  pub figure : HasFigure setting admit search pair lines outcome.status
  pub dumped : IsDumpWhere (is_some search.dump) setting (RunsPair setting pair) outcome.dump
