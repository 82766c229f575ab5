-- What is true of the outcome of `bound`.
use Rattle.std.specs.Prelude.{◌≡◌, ◌≢◌, ◌⊎◌, ℕ, ◌<◌, ◌||◌, is_some, Bool, true, false, List, [], ◌∷◌, ◌++◌, slice_get, Option, Some, None}
use Rattle.td_gates.specs.Wave.{Wave}
use Rattle.td_nets.specs.Netlist.{Name, Net, Named}
use Rattle.td_circuit.specs.Settings.{Setting}
use Rattle.td_domain.specs.declared.cubes.Trit.{Trit}
use Rattle.td_domain.specs.Admits.{Admitted}
use Rattle.td_domain.specs.Bounds.{AreSignals, IsUpperBoundIn}
use Rattle.td_domain.specs.Worst.{IsUpperBound}
use Rattle.td_domain.specs.Functions.{Functions}
use Rattle.td_domain.specs.Together.{both_functions}
use Rattle.td_arrival.specs.Arrivals.{arrival_functions}
use Rattle.td_arrival.specs.declared.signals.Signal.{Signal}
use Rattle.td_ternary.specs.Possibles.{possible_functions}
use Rattle.td_reading.specs.declared.reading.Reading.{Reading}
use Rattle.td_certificate.specs.declared.tree.BoundedBy.{BoundedBy}
use Rattle.td_certificate.specs.declared.tree.BoundedBy.TheVariants as by
use Rattle.td_certificate.specs.Accepts.{IsBoundBy}
use Rattle.td_spans.specs.Pieces.{nearest}
use Rattle.td_request.specs.declared.question.Question.{Question}
use Rattle.td_request.specs.declared.request.Bound.{Bound}
use Rattle.td_question.specs.Asking.{IsAsked, IsQuestionFault}
use Rattle.td_lines.specs.declared.line.Figure.TheVariants as figure
use Rattle.td_lines.specs.declared.line.Line.{Line}
use Rattle.td_lines.specs.declared.line.Line.TheVariants as line
use Rattle.td_lines.specs.declared.line.Standing.TheVariants.{Met}
use Rattle.td_answer.specs.Heads.{head_lines}
use Rattle.td_answer.specs.Names.{label}
use Rattle.td_answer.specs.Requirements.{bound_standing, met_lines, met_ending}
use Rattle.td_answer.specs.Starts.{TellsStart}
use Rattle.td_answer.specs.declared.outcome.Outcome.{Outcome}
use Rattle.td_answer.specs.declared.refusal.Refusal.{Refusal}
use Rattle.td_answer.specs.declared.refusal.Refusal.TheVariants as refusal

-- the bound that a domain gives of a cube: where it is a moment, no pair of the cube has a greater
-- delay
pub record IsSoundBound (domain : BoundedBy) (setting : Setting) (cube : List Trit) (bound : Option ℕ) : Type 0 where
  pub is : IsBoundBy domain setting cube bound
  pub sound : (moment : ℕ) → bound ≡ Some moment → IsUpperBoundIn setting cube moment

-- the lines of the bounds by arrival windows, by possible levels and by both at once
abbrev pub bound_lines : Option ℕ → Option ℕ → Option ℕ → List Line
bound_lines arrivals possibles both =
    line.Bound figure.Arrivals arrivals ∷ line.Bound figure.Possibles possibles ∷ line.Bound figure.Both both ∷ []

-- the lines of edges, alone and with possible levels
abbrev pub edge_lines : Option ℕ → Option ℕ → List Line
edge_lines alone together = line.Bound figure.Edges alone ∷ line.Bound figure.EdgesAndPossibles together ∷ []

-- the lines of the bounds by edges, and the lesser of the two
pub record AreEdges (setting : Setting) (cube : List Trit) (least : Option ℕ) (lines : List Line) : Type 0 where
  pub alone : Option ℕ
  pub together : Option ℕ
  pub alone_is : IsSoundBound by.Edges setting cube alone
  pub together_is : IsSoundBound by.EdgesAndPossible setting cube together
  pub least_is : least ≡ nearest alone together
  pub are : lines ≡ edge_lines alone together

-- the bounds by edges are there where they are asked for, and nowhere else
abbrev pub HasEdges : Bool → Setting → List Trit → Option ℕ → List Line → Type 0
HasEdges false setting cube least lines = (least ≡ None) × (lines ≡ [])
HasEdges true setting cube least lines = AreEdges setting cube least lines

-- they are asked for, or a moment is required
abbrev pub asks_edges : Bound → Bool
asks_edges asked = asked.edges || is_some asked.required

-- the least of the bounds, where there is one
abbrev pub least_of : Option ℕ → Option ℕ → Option ℕ → Option ℕ → Option ℕ
least_of arrivals possibles both edges = nearest (nearest arrivals possibles) (nearest both edges)

-- arrival windows and possible levels together
abbrev pub together_functions : Functions (Signal × Wave)
together_functions = both_functions arrival_functions possible_functions

-- the output's own last moment, by arrival windows and possible levels together, is the bound, and
-- that of no output before it is
pub record IsLatestBound (setting : Setting) (cube : List Trit) (bound : Option ℕ) (output : Name) : Type 0 where
  pub signals : Net → (Signal × Wave)
  pub are_signals : AreSignals together_functions setting cube signals
  pub place : ℕ
  pub is_output : slice_get setting.netlist.outputs place ≡ Some output
  pub latest : together_functions.last_of (signals (Named output)) ≡ bound
  pub first : (k : ℕ) (name : Name) → k < place → slice_get setting.netlist.outputs k ≡ Some name
      → together_functions.last_of (signals (Named name)) ≢ bound

-- where it is asked for, the line names the first output that has the bound by arrival windows and
-- possible levels together; there is none where there are no outputs
abbrev pub TellsBound : Bool → Setting → List Trit → Option ℕ → List Line → Type 0
TellsBound false setting cube bound lines = lines ≡ []
TellsBound true setting cube bound lines =
    ((setting.netlist.outputs ≡ []) × (lines ≡ []))
    ⊎ ((output : Name) × IsLatestBound setting cube bound output × (lines ≡ line.Output (label output) ∷ []))

-- the report has the head, and what is told of a cube of pairs of a setting, of whose bounds this is the
-- least
pub record ReportsBounds (asked : Bound) (setting : Setting) (cube : List Trit) (least : Option ℕ) (report : List Line) : Type 0 where
  pub arrivals : Option ℕ
  pub possibles : Option ℕ
  pub both : Option ℕ
  pub arrivals_is : IsSoundBound by.Arrival setting cube arrivals
  pub possibles_is : IsSoundBound by.Possible setting cube possibles
  pub both_is : IsSoundBound by.Both setting cube both
  pub edges : Option ℕ
  pub by_edges : List Line
  pub has_edges : HasEdges (asks_edges asked) setting cube edges by_edges
  pub named : List Line
  pub tells : TellsBound asked.outputs setting cube both named
  pub started : List Line
  pub starts : TellsStart asked.earliest setting cube started
  pub least_is : least ≡ least_of arrivals possibles both edges
  pub is : report ≡ head_lines setting.netlist ++ bound_lines arrivals possibles both ++ by_edges ++ named ++ started ++ met_lines asked.required least

-- the question of the request: its words are about inputs alone, and it has no file of conditions
abbrev pub question_in : Bound → Question
question_in asked = record { inputs = asked.inputs; flips = asked.flips; keep_file = None; keep_text = None }

-- The report has the bounds of the pins of the pairs that the request asks about. The required moment,
-- where there is one, is met where the least bound isn't later, and no admitted pair is later then;
-- else it stays open.
pub record IsTrueBound (text : List ℕ) (reading : Reading) (asked : Bound) (outcome : Outcome) : Type 0 where
  pub setting : Setting
  pub admit : Admitted
  pub about : IsAsked text reading (question_in asked) setting admit
  pub least : Option ℕ
  pub report : ReportsBounds asked setting admit.pins least outcome.report
  pub met : (moment : ℕ) → bound_standing moment least ≡ Met → IsUpperBound setting admit moment
  pub ends : outcome.status ≡ met_ending asked.required least

abbrev pub IsRefusedBound : List ℕ → Reading → Bound → Refusal → Type 0
IsRefusedBound text reading asked refusal.OutOfMemory = Unit {0}
IsRefusedBound text reading asked (refusal.Question found) = IsQuestionFault text reading (question_in asked) found
IsRefusedBound text reading asked other = ⊥
