-- What is true of the outcome of a search for the worst delay of the pairs that keep conditions.
use Rattle.std.specs.Prelude.{◌≡◌, ◌⊎◌, ℕ, ◌≤◌, Bool, true, false, List, [], ◌∷◌, ◌++◌, Option, Some, None, is_some}
use Rattle.std.specs.List.{Contains}
use Rattle.td_nets.specs.Netlist.{Netlist}
use Rattle.td_circuit.specs.Settings.{Setting}
use Rattle.td_circuit.specs.Run.{IsDelayOfBits}
use Rattle.td_domain.specs.Pairs.{Pair}
use Rattle.td_reading.specs.declared.reading.Reading.{Reading}
use Rattle.td_source.specs.Reads.{AreOutputsOf}
use Rattle.td_refutation.specs.Asking.{Asking, IsAskedAbout}
use Rattle.td_refute.specs.Kept.{IsBoundAmong, AsksNone}
use Rattle.td_certificate.specs.declared.certificate.Certificate.{Certificate}
use Rattle.td_certificate.specs.declared.certificate.Claim.{Claim}
use Rattle.td_certificate.specs.Accepts.{Accepts, setting_of}
use Rattle.td_certificate.specs.Questions.{Terms, asking_of}
use Rattle.td_search.specs.Written.{HasText}
use Rattle.td_request.specs.declared.question.Question.{Question}
use Rattle.td_request.specs.declared.request.Search.{Search}
use Rattle.td_question.specs.Asking.{IsAskedKeeping, keep_quotes}
use Rattle.td_lines.specs.declared.line.Cause.{Cause}
use Rattle.td_lines.specs.declared.line.Line.{Line}
use Rattle.td_lines.specs.declared.line.Line.TheVariants as line
use Rattle.td_answer.specs.Certified.{ClaimsPrinted, SaysBetween}
use Rattle.td_answer.specs.Ends.{TellsWork}
use Rattle.td_answer.specs.Heads.{head_lines}
use Rattle.td_answer.specs.Requirements.{TellsRequired}
use Rattle.td_answer.specs.Runs.{TellsPair, RunsPair}
use Rattle.td_answer.specs.Dumps.{IsDumpWhere}
use Rattle.td_answer.specs.declared.outcome.Outcome.{Outcome}
use Rattle.td_answer.specs.declared.outcome.Dump.{Dump}
use Rattle.td_answer.specs.declared.status.Status.{Status}
use Rattle.td_answer.specs.declared.status.Status.TheVariants as status

abbrev pub has_some : {A : Type 0} → List A → Bool
has_some [] = false
has_some (first ∷ others) = true

-- whether a question has conditions
abbrev pub has_conditions : Question → Bool
has_conditions question = has_some (keep_quotes question)

-- ---- figures

-- the pair is one of those asked about, and its delay is this
pub record HasDelayAmong (setting : Setting) (asking : Asking) (pair : Pair) (delay : ℕ) : Type 0 where
  pub asked : IsAskedAbout setting.netlist asking pair
  pub delays : IsDelayOfBits setting pair.first pair.second delay

-- The first line is `exact N`. The pair on the next lines is one of those asked about and has N, and
-- none of them is later. After the nodes
-- come what the search took, if that is asked for, what is required, and what is asked of its run.
pub record IsExactAmong (setting : Setting) (asking : Asking) (search : Search) (pair : Pair) (lines : List Line) (ending : Status) : Type 0 where
  pub time : ℕ
  pub nodes : ℕ
  pub used : List Line
  pub required : List Line
  pub more : List Line
  pub printed : lines ≡ line.Exact time ∷ line.From pair.first ∷ line.To pair.second ∷ line.Nodes nodes ∷ ((used ++ required) ++ more)
  pub has : HasDelayAmong setting asking pair time
  pub greatest : IsBoundAmong setting asking time
  pub stands : TellsRequired (IsBoundAmong setting asking) (HasDelayAmong setting asking pair) status.Done time time search.required required ending
  pub took : TellsWork search.shown.work used
  pub tells : TellsPair search.shown setting pair more

-- It is `between L H`: the pair that follows is one of those asked about and has L, and none of them is
-- later than H.
pub record IsBetweenAmong (setting : Setting) (asking : Asking) (search : Search) (pair : Pair) (lines : List Line) (ending : Status) : Type 0 where
  pub low : ℕ
  pub high : ℕ
  pub cause : Cause
  pub nodes : ℕ
  pub used : List Line
  pub required : List Line
  pub more : List Line
  pub printed : lines ≡ line.Between low high ∷ line.Cause cause ∷ line.From pair.first ∷ line.To pair.second ∷ line.Nodes nodes ∷ ((used ++ required) ++ more)
  pub has : HasDelayAmong setting asking pair low
  pub greatest : IsBoundAmong setting asking high
  pub ordered : low ≤ high
  pub stands : TellsRequired (IsBoundAmong setting asking) (HasDelayAmong setting asking pair) status.Between low high search.required required ending
  pub took : TellsWork search.shown.work used
  pub tells : TellsPair search.shown setting pair more

-- It is `between none H`: no pair that is asked about is later than H.
pub record IsAtMost (setting : Setting) (asking : Asking) (search : Search) (lines : List Line) (ending : Status) : Type 0 where
  pub high : ℕ
  pub cause : Cause
  pub used : List Line
  pub required : List Line
  pub printed : lines ≡ line.AtMost high ∷ line.Cause cause ∷ (used ++ required)
  pub greatest : IsBoundAmong setting asking high
  pub took : TellsWork search.shown.work used
  pub stands : TellsRequired (IsBoundAmong setting asking) (λ delay. ⊥) status.Between 0 high search.required required ending

-- It is `none`: no pair is asked about.
pub record IsNone (setting : Setting) (asking : Asking) (lines : List Line) : Type 0 where
  pub nodes : ℕ
  pub printed : lines ≡ line.NoPair ∷ line.Nodes nodes ∷ []
  pub none : AsksNone setting asking

-- the dump that is asked for has the waves of the pair
abbrev pub DumpsPair : Search → Setting → Pair → Option Dump → Type 0
DumpsPair search setting pair dump = IsDumpWhere (is_some search.dump) setting (RunsPair setting pair) dump

-- The search ends with status 1 just where no pair is asked about; where nothing is required, it ends
-- with status 0 just where its figure is exact. Where no pair is known, there is no dump.
abbrev pub HasFigureAmong : Setting → Asking → Search → List Line → Option Dump → Status → Type 0
HasFigureAmong setting asking search lines dump ending =
    ((pair : Pair) × IsExactAmong setting asking search pair lines ending × DumpsPair search setting pair dump)
    ⊎ ((pair : Pair) × IsBetweenAmong setting asking search pair lines ending × DumpsPair search setting pair dump)
    ⊎ (IsAtMost setting asking search lines ending × (dump ≡ None))
    ⊎ (IsNone setting asking lines × (dump ≡ None) × (ending ≡ status.Refused))

-- What the request asks of the text is this setting, which pairs are admitted, and what they keep; the
-- report begins with the head of its netlist, and what follows is true of these pairs.
pub record IsTrueKept (text : List ℕ) (reading : Reading) (search : Search) (outcome : Outcome) : Type 0 where
  pub setting : Setting
  pub asking : Asking
  pub asked : IsAskedKeeping text reading search.question setting asking
  pub lines : List Line
  pub is : outcome.report ≡ head_lines setting.netlist ++ lines
  pub figure : HasFigureAmong setting asking search lines outcome.dump outcome.status

-- ---- certificates

-- it tells how the netlist is read
abbrev pub AreKeptTermsOf : List ℕ → Reading → Option Terms → Type 0
AreKeptTermsOf text reading None = ⊥
AreKeptTermsOf text reading (Some terms) = AreOutputsOf text reading terms.outputs × (terms.default ≡ reading.default)

-- it is about what the request asks, its conditions among that, is accepted, and has a text
-- within the limit
pub record IsShownAmong (text : List ℕ) (reading : Reading) (question : Question) (certificate : Certificate) : Type 0 where
  pub netlist : Netlist
  pub asked : IsAskedKeeping text reading question (setting_of netlist certificate) (asking_of certificate.question)
  pub terms : AreKeptTermsOf text reading certificate.question.terms
  pub accepted : Accepts netlist certificate
  pub written : HasText certificate

-- what it claims is printed
abbrev pub TellsClaim : Search → List Line → Option Claim → Type 0
TellsClaim search report None = Contains report line.NoPair
TellsClaim search report (Some claim) = ClaimsPrinted search report claim

-- the report says that the worst delay stays open
abbrev pub SaysOpen : List Line → Type 0
SaysOpen report = SaysBetween report ⊎ ((high : ℕ) × Contains report (line.AtMost high))

-- an exact answer has one, and that no pair is asked about
abbrev pub IsCertifiedAmong : List ℕ → Reading → Search → List Line → Option Certificate → Type 0
IsCertifiedAmong text reading search report (Some certificate) =
    IsShownAmong text reading search.question certificate × TellsClaim search report certificate.claim
IsCertifiedAmong text reading search report None = SaysOpen report
