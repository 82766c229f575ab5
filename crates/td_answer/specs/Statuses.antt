-- How requests end.
use Rattle.std.specs.Prelude.{ℕ}
use Rattle.td_source.specs.declared.fault.SourceFault.{SourceFault}
use Rattle.td_source.specs.declared.fault.SourceFault.TheVariants as source
use Rattle.td_question.specs.declared.fault.QuestionFault.{QuestionFault}
use Rattle.td_question.specs.declared.fault.QuestionFault.TheVariants as question
use Rattle.td_search.specs.declared.answers.SearchFault.{SearchFault}
use Rattle.td_search.specs.declared.answers.SearchFault.TheVariants as search
use Rattle.td_checker.specs.declared.verdict.CheckFault.{CheckFault}
use Rattle.td_checker.specs.declared.verdict.CheckFault.TheVariants as check
use Rattle.td_answer.specs.declared.status.Status.{Status}
use Rattle.td_answer.specs.declared.status.Status.TheVariants.{Done, Refused, BadCommand, Between, Rejected, Device, Violated}
use Rattle.td_answer.specs.declared.refusal.Refusal.{Refusal}
use Rattle.td_answer.specs.declared.refusal.Refusal.TheVariants as refusal

-- the exit status of the program
abbrev pub code_of : Status → ℕ
code_of Done = 0
code_of Refused = 1
code_of BadCommand = 2
code_of Between = 3
code_of Rejected = 4
code_of Device = 5
code_of Violated = 6

abbrev pub source_status : SourceFault → Status
source_status source.OutOfMemory = Device
source_status (source.Netlist fault) = Refused
source_status source.NoOutput = BadCommand
source_status (source.Loop name) = Refused

abbrev pub question_status : QuestionFault → Status
question_status question.OutOfMemory = Device
question_status (question.Source fault) = source_status fault
question_status (question.BadName fault labels) = BadCommand
question_status (question.BadVector word) = BadCommand
question_status (question.BadKeep word) = BadCommand
question_status (question.NoNet name) = BadCommand
question_status question.LongKeepFile = Refused

abbrev pub search_status : SearchFault → Status
search_status search.OutOfMemory = Device
search_status search.NoPair = Refused

abbrev pub check_status : CheckFault → Status
check_status check.OutOfMemory = Device
check_status (check.Netlist fault) = Refused
check_status check.NoOutput = BadCommand
check_status (check.Loop name) = Refused
check_status (check.Certificate fault) = Refused

abbrev pub status_of : Refusal → Status
status_of refusal.OutOfMemory = Device
status_of (refusal.Unread name) = Device
status_of (refusal.Question fault) = question_status fault
status_of (refusal.NoOutput name) = BadCommand
status_of (refusal.Search fault) = search_status fault
status_of (refusal.Check fault) = check_status fault
status_of (refusal.BadPart name fault) = Refused
status_of (refusal.Unaccepted name verdict) = Rejected
status_of (refusal.OtherCircuit name) = Rejected
status_of (refusal.NotJoined fault) = Rejected
status_of (refusal.OtherQuestion difference) = Rejected
status_of refusal.TooLong = Rejected
status_of refusal.OutOfTime = Between
