-- What is true of the outcome of a request, by its command.
use Rattle.std.specs.Prelude.{◌≡◌, ℕ, Bool, List, Option, Some, None, slice_get}
use Rattle.std.specs.Global.{Vec}
use Rattle.td_reading.specs.declared.reading.Reading.{Reading}
use Rattle.td_search.specs.Problems.{Problem}
use Rattle.td_question.specs.Asking.{IsAsked}
use Rattle.td_request.specs.declared.request.Search.{Search}
use Rattle.td_request.specs.declared.request.Table.{Table}
use Rattle.td_request.specs.declared.request.Table.TheVariants as table
use Rattle.td_request.specs.declared.request.Check.{Check}
use Rattle.td_request.specs.declared.request.Command.{Command}
use Rattle.td_request.specs.declared.request.Command.TheVariants as command
use Rattle.td_request.specs.declared.request.Request.{Request}
use Rattle.td_answer.specs.Bounds.{IsTrueBound, IsRefusedBound}
use Rattle.td_answer.specs.Answered.{IsPrintOfTable}
use Rattle.td_answer.specs.Conditions.{IsTrueSearch, IsCertifiedFor}
use Rattle.td_answer.specs.Filled.{filled}
use Rattle.td_answer.specs.Hazards.{AreTrueHazards}
use Rattle.td_answer.specs.Infos.{IsTrueInfo, IsRefusedInfo}
use Rattle.td_answer.specs.Joins.{texts_of, IsTrueJoin, IsRefusedJoin}
use Rattle.td_answer.specs.Parts.{IsTrueParts, IsRefusedParts}
use Rattle.td_answer.specs.Paths.{IsTruePath, IsRefusedPath}
use Rattle.td_answer.specs.Searches.{IsRefusedSearch}
use Rattle.td_answer.specs.Simulations.{IsTrueSim, IsRefusedSim}
use Rattle.td_answer.specs.Tables.{IsTrueTable}
use Rattle.td_answer.specs.Verdicts.{IsTrueCheck, IsRefusedCheck}
use Rattle.td_answer.specs.declared.outcome.Outcome.{Outcome}
use Rattle.td_answer.specs.declared.refusal.Refusal.{Refusal}
use Rattle.td_answer.specs.declared.refusal.Refusal.TheVariants as refusal
use Rattle.td_answer.specs.declared.texts.Texts.{Texts}

-- ---- checks

-- the text of the certificate is there, and this is true of it
abbrev pub IsCheckedTrue : List ℕ → Reading → Check → Option (Vec ℕ) → Outcome → Type 0
IsCheckedTrue text reading asked None outcome = ⊥
IsCheckedTrue text reading asked (Some spelled) outcome = IsTrueCheck text reading asked.told spelled.items outcome

-- or it isn't there, and the refusal names its file
abbrev pub IsRefusedChecked : List ℕ → Reading → Check → Option (Vec ℕ) → Refusal → Type 0
IsRefusedChecked text reading asked None reason = reason ≡ refusal.Unread asked.certificate
IsRefusedChecked text reading asked (Some spelled) reason = IsRefusedCheck text reading spelled.items reason

-- ---- searches

-- for all outputs at once, or for each alone
abbrev pub IsSearchedTrue : Option Table → List ℕ → Reading → Search → Outcome → Type 0
IsSearchedTrue None text reading asked outcome = IsTrueSearch text reading asked outcome
IsSearchedTrue (Some table.Hazards) text reading asked outcome = AreTrueHazards text reading asked outcome
IsSearchedTrue (Some table.Delays) text reading asked outcome = IsTrueTable text reading asked outcome
IsSearchedTrue (Some (table.Changes figures)) text reading asked outcome = IsTrueTable text reading asked outcome

abbrev pub IsCertifiedSearch : Option Table → List ℕ → Reading → Search → Outcome → Type 0
IsCertifiedSearch None text reading asked outcome = IsCertifiedFor text reading asked outcome.report outcome.certificate
IsCertifiedSearch (Some asked_for) text reading asked outcome = outcome.certificate ≡ None

-- ---- requests

-- it is no search
abbrev pub IsPlain : Command → Type 0
IsPlain (command.Worst search) = ⊥
IsPlain other = Unit {0}

-- what the report and the dump say is true, and the status is what it says
abbrev pub SaysTrue : Command → List ℕ → Reading → List (Vec ℕ) → Outcome → Type 0
SaysTrue (command.Sim asked) text reading spelled outcome = IsTrueSim text reading asked outcome
SaysTrue (command.Path asked) text reading spelled outcome = IsTruePath text reading asked outcome
SaysTrue (command.Bound asked) text reading spelled outcome = IsTrueBound text reading asked outcome
SaysTrue (command.Worst asked) text reading spelled outcome = IsSearchedTrue asked.table text reading asked outcome
SaysTrue (command.Parts asked) text reading spelled outcome = IsTrueParts text reading asked outcome
SaysTrue (command.Join asked) text reading spelled outcome = IsTrueJoin text reading asked (texts_of spelled) outcome
SaysTrue (command.Check asked) text reading spelled outcome = IsCheckedTrue text reading asked (slice_get spelled 0) outcome
SaysTrue command.Info text reading spelled outcome = IsTrueInfo text reading outcome

-- the certificate
abbrev pub IsCertifiedBy : Command → List ℕ → Reading → Outcome → Type 0
IsCertifiedBy (command.Worst asked) text reading outcome = IsCertifiedSearch asked.table text reading asked outcome
IsCertifiedBy (command.Join asked) text reading outcome = Unit {0}
IsCertifiedBy other text reading outcome = outcome.certificate ≡ None

-- what the report of a search says of the search, which can be stopped or not
abbrev pub IsPrintOfCommand : Bool → Command → List ℕ → Reading → Outcome → Type 0
IsPrintOfCommand can_stop (command.Worst asked) text reading outcome = IsPrintOfTable asked.table can_stop text reading asked outcome
IsPrintOfCommand can_stop other text reading outcome = Unit {0}

-- why there is none
abbrev pub IsRefusedBy : Command → List ℕ → Reading → List (Vec ℕ) → Refusal → Type 0
IsRefusedBy (command.Sim asked) text reading spelled reason = IsRefusedSim text reading asked reason
IsRefusedBy (command.Path asked) text reading spelled reason = IsRefusedPath text reading asked reason
IsRefusedBy (command.Bound asked) text reading spelled reason = IsRefusedBound text reading asked reason
IsRefusedBy (command.Worst asked) text reading spelled reason = IsRefusedSearch text reading asked reason
IsRefusedBy (command.Parts asked) text reading spelled reason = IsRefusedParts text reading asked reason
IsRefusedBy (command.Join asked) text reading spelled reason = IsRefusedJoin text reading asked (texts_of spelled) reason
IsRefusedBy (command.Check asked) text reading spelled reason = IsRefusedChecked text reading asked (slice_get spelled 0) reason
IsRefusedBy command.Info text reading spelled reason = IsRefusedInfo text reading reason

abbrev pub IsTrueOutcome : Request → Texts → Outcome → Type 0
IsTrueOutcome request texts outcome = SaysTrue (filled texts.keep request.command) texts.netlist.now request.reading texts.certificates.now outcome

abbrev pub HasCertificate : Request → Texts → Outcome → Type 0
HasCertificate request texts outcome = IsCertifiedBy (filled texts.keep request.command) texts.netlist.now request.reading outcome

abbrev pub IsPrintOf : Bool → Request → Texts → Outcome → Type 0
IsPrintOf can_stop request texts outcome = IsPrintOfCommand can_stop (filled texts.keep request.command) texts.netlist.now request.reading outcome

abbrev pub IsRefused : Request → Texts → Refusal → Type 0
IsRefused request texts reason = IsRefusedBy (filled texts.keep request.command) texts.netlist.now request.reading texts.certificates.now reason

-- ---- the watch

-- what a search is asked
abbrev pub IsSearched : Command → List ℕ → Reading → Problem → Type 0
IsSearched (command.Worst search) text reading asked = IsAsked text reading search.question asked.setting asked.admit
IsSearched other text reading asked = ⊥
