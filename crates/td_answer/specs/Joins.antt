-- What is true of the outcome of `join`.
use Rattle.std.specs.Prelude.{◌≡◌, ◌≢◌, ◌<◌, ◌≤◌, ◌⊎◌, ℕ, Bool, true, List, [], ◌++◌, All, take, map, length, get_or, slice_get, Option, Some, None}
use Rattle.std.specs.Global.{Vec}
use Rattle.std.specs.List.{AllZip}
use Rattle.td_nets.specs.Netlist.{Netlist}
use Rattle.td_reading.specs.declared.reading.Reading.{Reading}
use Rattle.td_source.specs.Reads.{HasCircuit}
use Rattle.td_certificate.specs.declared.certificate.Certificate.{Certificate}
use Rattle.td_certificate.specs.declared.certificate.Claim.{Claim}
use Rattle.td_certificate.specs.declared.fault.CertFaultKind.TheVariants as certificate_kind
use Rattle.td_circuit.specs.Settings.{Setting}
use Rattle.td_circuit.specs.Run.{IsDelayOfBits}
use Rattle.td_refutation.specs.Asking.{Asking}
use Rattle.td_certificate.specs.Questions.{asking_of, keep_by}
use Rattle.td_certificate.specs.Accepts.{Accepts, AsksNone, IsBoundOf, IsTrueClaim, IsOfSize, setting_of}
use Rattle.td_certificate.specs.Faults.{IsFault}
use Rattle.td_certificate.specs.Spelling.{Spells, HasSpelling, version_in}
use Rattle.td_checker.specs.declared.verdict.Verdict.TheVariants.{Accepted}
use Rattle.td_checker.specs.Checks.{told_all, HaveVerdict, IsCheckFault}
use Rattle.td_join.specs.declared.fault.JoinFault.{JoinFault}
use Rattle.td_join.specs.declared.fault.JoinFault.TheVariants as fault
use Rattle.td_join.specs.Joining.{IsJoined}
use Rattle.td_join.specs.Faults.{IsJoinFault, renamed}
use Rattle.td_request.specs.declared.request.Join.{Join}
use Rattle.td_question.specs.Asking.{IsAskedKeeping, IsQuestionFault}
use Rattle.td_answer.specs.Heads.{head_lines}
use Rattle.td_answer.specs.Lines.{whole_line, whole_lines, standing_lines, ending_of_moments, ending_of_whole}
use Rattle.td_answer.specs.Requirements.{TellsRequired}
use Rattle.td_answer.specs.Claims.{question_lines}
use Rattle.td_answer.specs.Differences.{DiffersIn}
use Rattle.td_lines.specs.declared.line.Line.{Line}
use Rattle.td_lines.specs.declared.line.Line.TheVariants as line
use Rattle.td_answer.specs.Verdicts.{IsReached, IsWorstAsked}
use Rattle.td_answer.specs.declared.outcome.Outcome.{Outcome}
use Rattle.td_answer.specs.declared.refusal.Refusal.{Refusal}
use Rattle.td_answer.specs.declared.refusal.Refusal.TheVariants as refusal
use Rattle.td_answer.specs.declared.status.Status.{Status}
use Rattle.td_answer.specs.declared.status.Status.TheVariants.{Done}

-- the bytes of texts
abbrev pub texts_of : List (Vec ℕ) → List (List ℕ)
texts_of certificates = map (λ text. text.items) certificates

-- ---- the parts

-- for a netlist, the text spells this certificate, which is of a circuit of its size, and accepted
-- where that is asked for
pub record TellsPart (text : List ℕ) (reading : Reading) (netlist : Netlist) (check : Bool) (spelled : List ℕ) (part : Certificate) : Type 0 where
  pub spells : Spells part spelled
  pub sized : IsOfSize netlist part
  pub accepted : check ≡ true → HaveVerdict text reading told_all spelled Accepted

-- why a text gives no part, another verdict only where parts are checked; the refusal names its
-- file
abbrev pub TellsNoPart : List ℕ → Reading → Netlist → Bool → List ℕ → List ℕ → Refusal → Type 0
TellsNoPart text reading netlist check name spelled refusal.OutOfMemory = Unit {0}
TellsNoPart text reading netlist check name spelled (refusal.BadPart reported found) =
    (found.kind ≢ certificate_kind.OutOfMemory) × (reported.now ≡ name) × IsFault found.kind found.line spelled
TellsNoPart text reading netlist check name spelled (refusal.Unaccepted reported verdict) =
    (check ≡ true) × (reported.now ≡ name) × (verdict ≢ Accepted) × HaveVerdict text reading told_all spelled verdict
TellsNoPart text reading netlist check name spelled (refusal.OtherCircuit reported) =
    (reported.now ≡ name) × (part : Certificate) × Spells part spelled × ¬ IsOfSize netlist part
TellsNoPart text reading netlist check name spelled (refusal.Check found) = (check ≡ true) × IsCheckFault text reading spelled found
TellsNoPart text reading netlist check name spelled other = ⊥

-- a text for each name, and a part that it tells, in order
pub record AreParts (text : List ℕ) (reading : Reading) (netlist : Netlist) (check : Bool) (names texts : List (List ℕ)) (parts : List Certificate) : Type 0 where
  pub there : length names ≤ length texts
  pub each : AllZip (TellsPart text reading netlist check) (take (length names) texts) parts

-- the text of the file of this name isn't there, or tells no part
abbrev pub LacksPart : List ℕ → Reading → Netlist → Bool → List ℕ → Option (List ℕ) → Refusal → Type 0
LacksPart text reading netlist check name None (refusal.Unread reported) = reported.now ≡ name
LacksPart text reading netlist check name None other = ⊥
LacksPart text reading netlist check name (Some spelled) reason = TellsNoPart text reading netlist check name spelled reason

-- it is so of one of the files
pub record HasNoPart (text : List ℕ) (reading : Reading) (netlist : Netlist) (check : Bool) (names texts : List (List ℕ)) (reason : Refusal) : Type 0 where
  pub place : ℕ
  pub name : List ℕ
  pub is_name : slice_get names place ≡ Some name
  pub lacks : LacksPart text reading netlist check name (slice_get texts place) reason

-- ---- what is joined

-- the words ask about these pairs of the text's netlist, which has no loop, with these moments, and
-- the texts tell certificates about it
pub record IsToJoin (text : List ℕ) (reading : Reading) (asked : Join) (texts : List (List ℕ)) (setting : Setting) (asking : Asking) (parts : List Certificate) : Type 0 where
  pub asks : IsAskedKeeping text reading asked.question setting asking
  pub are_parts : AreParts text reading setting.netlist asked.check asked.parts texts parts

-- the most nodes of a whole
abbrev pub most_nodes : ℕ
most_nodes = 10000000

-- The line is `exact T`, and T is the worst delay of the pairs that are asked about; or it is
-- `between L H`, some such pair has the delay L, and none changes an output after H, which is later.
abbrev pub IsTrueLine : Setting → Asking → Line → Type 0
IsTrueLine setting asking (line.Exact time) = IsWorstAsked setting asking time
IsTrueLine setting asking (line.Between low high) = IsReached setting asking low × (low < high) × IsBoundOf setting asking high
IsTrueLine setting asking other = ⊥

-- What a whole claims is true: of the pairs that it asks about, its pair has its time, and none
-- changes an output after its high, and so its line is true; or there is no such pair.
abbrev pub IsTrueWhole : Setting → Asking → Option Claim → Type 0
IsTrueWhole setting asking None = AsksNone setting.netlist asking
IsTrueWhole setting asking (Some claim) = IsTrueClaim setting asking claim × IsTrueLine setting asking (whole_line true claim.time claim.high)

-- The lines say how the required moment stands, and the joining ends so: met only where no pair that
-- is asked about is later, and violated only where the given pair is. Where no pair is claimed there
-- is no such line.
abbrev pub TellsStanding : Setting → Asking → Option ℕ → Option Claim → List Line → Status → Type 0
TellsStanding setting asking required None lines ending = (lines ≡ []) × (ending ≡ Done)
TellsStanding setting asking required (Some claim) lines ending =
    TellsRequired (IsBoundOf setting asking) (IsDelayOfBits setting claim.pair.first claim.pair.second) (ending_of_moments claim.time claim.high) claim.time claim.high required lines ending

-- what it claims, how a required moment stands, and what it is about, in the lines of `check`
abbrev pub joined_lines : Netlist → Bool → Option ℕ → Certificate → List Line
joined_lines netlist checked required whole =
    ((head_lines netlist ++ whole_lines checked whole.claim (length whole.tree)) ++ standing_lines required whole.claim)
    ++ question_lines (version_in whole) whole.question

-- The parts are joined into one certificate of the question that the words ask, its pins, held
-- inputs, flips, moments and conditions, all of it. It has a text and not too many nodes, and the report tells
-- its time and its pair, as that of a search does, or the two moments between which the worst delay
-- lies, or that no pair is admitted, the number of its nodes, how a required moment stands, and its
-- question. Where each part is accepted of a netlist, so is the whole. Where the parts are checked,
-- what it claims is true, and what is said of a required moment; where they aren't, its line is
-- `unchecked`.
pub record IsJoinedTo (text : List ℕ) (reading : Reading) (asked : Join) (texts : List (List ℕ)) (outcome : Outcome) (whole : Certificate) : Type 0 where
  pub setting : Setting
  pub asking : Asking
  pub parts : List Certificate
  pub to_join : IsToJoin text reading asked texts setting asking parts
  pub joined : IsJoined parts asking.admit.pins whole
  pub admits : whole.question.admit ≡ asking.admit
  pub keeps : keep_by whole.question.terms ≡ asking.keep
  pub dated : whole.question.moments ≡ setting.moments
  pub has_text : HasSpelling whole
  pub few : length whole.tree ≤ most_nodes
  pub accepted : (any : Netlist) → All (Accepts any) parts → Accepts any whole
  pub claims : asked.check ≡ true → IsTrueWhole (setting_of setting.netlist whole) (asking_of whole.question) whole.claim
  pub stands : asked.check ≡ true → TellsStanding (setting_of setting.netlist whole) (asking_of whole.question) asked.required whole.claim
      (standing_lines asked.required whole.claim) outcome.status
  pub is : outcome.report ≡ joined_lines setting.netlist asked.check asked.required whole
  pub ends : outcome.status ≡ ending_of_whole asked.required whole.claim

-- the outcome's certificate is what they are joined to
abbrev pub IsJoinedInto : List ℕ → Reading → Join → List (List ℕ) → Outcome → Option Certificate → Type 0
IsJoinedInto text reading asked texts outcome None = ⊥
IsJoinedInto text reading asked texts outcome (Some whole) = IsJoinedTo text reading asked texts outcome whole

abbrev pub IsTrueJoin : List ℕ → Reading → Join → List (List ℕ) → Outcome → Type 0
IsTrueJoin text reading asked texts outcome = IsJoinedInto text reading asked texts outcome outcome.certificate

-- ---- why nothing is joined

-- why parts aren't joined into a certificate about these pairs, with these moments: the fault, with
-- the names of the files at its places; or what they are joined into has too many nodes, or holds
-- other inputs, or has other flips, moments or conditions
abbrev pub IsUnjoinedFor : List (List ℕ) → List Certificate → List ℕ → Asking → Refusal → Type 0
IsUnjoinedFor names parts moments asking (refusal.NotJoined told) =
    (reported : JoinFault ℕ) × (reported ≢ fault.OutOfMemory) × IsJoinFault parts asking.admit.pins reported
    × (renamed (λ name. name.now) told ≡ renamed (λ place. get_or names place []) reported)
IsUnjoinedFor names parts moments asking refusal.TooLong =
    (whole : Certificate) × IsJoined parts asking.admit.pins whole × (most_nodes < length whole.tree)
IsUnjoinedFor names parts moments asking (refusal.OtherQuestion found) =
    (whole : Certificate) × IsJoined parts asking.admit.pins whole × DiffersIn moments asking whole.question found
IsUnjoinedFor names parts moments asking refusal.OutOfMemory = Unit {0}
IsUnjoinedFor names parts moments asking other = ⊥

-- the parts aren't joined
pub record IsNotJoined (text : List ℕ) (reading : Reading) (asked : Join) (texts : List (List ℕ)) (reason : Refusal) : Type 0 where
  pub setting : Setting
  pub asking : Asking
  pub parts : List Certificate
  pub to_join : IsToJoin text reading asked texts setting asking parts
  pub unjoined : IsUnjoinedFor asked.parts parts setting.moments asking reason

-- why no question is asked: the netlist's text, or the words
abbrev pub IsUnasked : List ℕ → Reading → Join → Refusal → Type 0
IsUnasked text reading asked refusal.OutOfMemory = Unit {0}
IsUnasked text reading asked (refusal.Question found) = IsQuestionFault text reading asked.question found
IsUnasked text reading asked other = ⊥

abbrev pub IsRefusedJoin : List ℕ → Reading → Join → List (List ℕ) → Refusal → Type 0
IsRefusedJoin text reading asked texts reason =
    IsUnasked text reading asked reason
    ⊎ (((netlist : Netlist) × HasCircuit text reading netlist × HasNoPart text reading netlist asked.check asked.parts texts reason)
    ⊎ IsNotJoined text reading asked texts reason)
