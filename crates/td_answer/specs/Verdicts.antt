-- What is true of the outcome of a check.
use Rattle.std.specs.Prelude.{◌≡◌, ◌<◌, ℕ, List, [], ◌∷◌}
use Rattle.std.specs.Borrow.{Bor}
use Rattle.td_nets.specs.Netlist.{Netlist}
use Rattle.td_circuit.specs.Settings.{Setting}
use Rattle.td_circuit.specs.Run.{IsDelayOfBits}
use Rattle.td_domain.specs.Pairs.{Pair}
use Rattle.td_refutation.specs.Asking.{Asking, IsAskedAbout}
use Rattle.td_reading.specs.declared.reading.Reading.{Reading}
use Rattle.td_reading.specs.declared.told.Told.{Told}
use Rattle.td_circuit.specs.Loops.{Loop}
use Rattle.td_certificate.specs.declared.certificate.Certificate.{Certificate}
use Rattle.td_certificate.specs.Questions.{asking_of}
use Rattle.td_certificate.specs.Accepts.{setting_of, AsksNone, IsBoundOf}
use Rattle.td_certificate.specs.Spelling.{Spells}
use Rattle.td_checker.specs.declared.verdict.Verdict.{Verdict}
use Rattle.td_checker.specs.declared.verdict.Verdict.TheVariants as verdict
use Rattle.td_checker.specs.Verdicts.{verdict_number, verdict_name, verdict_line}
use Rattle.td_checker.specs.Checks.{AsksAbout, HaveVerdict, IsCheckFault}
use Rattle.td_lines.specs.declared.line.Line.{Line}
use Rattle.td_lines.specs.declared.line.Line.TheVariants as line
use Rattle.td_answer.specs.Claims.{claim_lines, claimed_line}
use Rattle.td_answer.specs.declared.outcome.Outcome.{Outcome}
use Rattle.td_answer.specs.declared.refusal.Refusal.{Refusal}
use Rattle.td_answer.specs.declared.refusal.Refusal.TheVariants as refusal
use Rattle.td_answer.specs.declared.status.Status.{Status}
use Rattle.td_answer.specs.declared.status.Status.TheVariants as status

-- the line of a verdict that refuses
abbrev pub IsRefusedLine : Verdict → Line → Type 0
IsRefusedLine found printed =
    (name : Bor (List ℕ)) × (name.now ≡ verdict_name found) × (printed ≡ line.Refused (verdict_number found) name (verdict_line found))

abbrev pub AreRefusedLines : Verdict → List Line → Type 0
AreRefusedLines found report = (printed : Line) × IsRefusedLine found printed × (report ≡ printed ∷ [])

abbrev pub AreVerdictLines : Certificate → Verdict → List Line → Type 0
AreVerdictLines certificate verdict.Accepted report = report ≡ claim_lines certificate
AreVerdictLines certificate other report = AreRefusedLines other report

-- how a check ends
abbrev pub ending_by : Verdict → Status
ending_by verdict.Accepted = status.Done
ending_by other = status.Rejected

-- ---- the sentence

-- some pair that is asked about has this delay
abbrev pub IsReached : Setting → Asking → ℕ → Type 0
IsReached setting asking time = (pair : Pair) × IsAskedAbout setting.netlist asking pair × IsDelayOfBits setting pair.first pair.second time

-- this is the worst delay of the pairs that are asked about
abbrev pub IsWorstAsked : Setting → Asking → ℕ → Type 0
IsWorstAsked setting asking time = IsReached setting asking time × IsBoundOf setting asking time

-- The line is `accepted T`, and T is the worst delay of the pairs that are asked about; or it is
-- `accepted between T H`, some such pair has the delay T, and none changes an output after H, which
-- is later; or it is `accepted none`, and there is no such pair.
abbrev pub IsTrueClaim : Setting → Asking → Line → Type 0
IsTrueClaim setting asking (line.Accepted time) = IsWorstAsked setting asking time
IsTrueClaim setting asking (line.AcceptedBetween time high) = IsReached setting asking time × (time < high) × IsBoundOf setting asking high
IsTrueClaim setting asking line.AcceptedNone = AsksNone setting.netlist asking
IsTrueClaim setting asking other = ⊥

-- What the certificate claims is true of the pairs that it asks about, in the netlist that it asks
-- about, which has no loop, and with its moments.
pub record IsTrueOf (text : List ℕ) (reading : Reading) (certificate : Certificate) : Type 0 where
  pub netlist : Netlist
  pub asks : AsksAbout text reading certificate netlist
  pub acyclic : ¬ Loop netlist
  pub is_true : IsTrueClaim (setting_of netlist certificate) (asking_of certificate.question) (claimed_line certificate.claim)

-- The text spells a certificate, which has this verdict. One line refuses it by its verdict; or it
-- is accepted, its first line is true, and the others say what it is about. The request ends with
-- status 0 just where it is accepted.
pub record IsTrueVerdict (text : List ℕ) (reading : Reading) (told : Told) (spelled : List ℕ) (report : List Line) (ending : Status) : Type 0 where
  pub certificate : Certificate
  pub spells : Spells certificate spelled
  pub found : Verdict
  pub has : HaveVerdict text reading told spelled found
  pub is : AreVerdictLines certificate found report
  pub ends : ending ≡ ending_by found
  pub is_true : found ≡ verdict.Accepted → IsTrueOf text reading certificate

abbrev pub IsTrueCheck : List ℕ → Reading → Told → List ℕ → Outcome → Type 0
IsTrueCheck text reading told spelled outcome = IsTrueVerdict text reading told spelled outcome.report outcome.status

-- ---- why there is no verdict

abbrev pub IsRefusedCheck : List ℕ → Reading → List ℕ → Refusal → Type 0
IsRefusedCheck text reading spelled (refusal.Check fault) = IsCheckFault text reading spelled fault
IsRefusedCheck text reading spelled refusal.OutOfMemory = Unit {0}
IsRefusedCheck text reading spelled refusal.OutOfTime = Unit {0}
IsRefusedCheck text reading spelled other = ⊥
