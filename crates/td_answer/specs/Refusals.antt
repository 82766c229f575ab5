-- The sentence of a refusal.
use Rattle.std.specs.Prelude.{ℕ, List, [], ◌++◌, map, slice_get, codes, decimal, Option, Some, None}
use Rattle.std.specs.Borrow.{Bor}
use Rattle.td_nets.specs.Netlist.{Name}
use Rattle.td_nets.specs.Printed.{printed}
use Rattle.td_nets.specs.Views.{name_of}
use Rattle.td_netlist.specs.Kinds as kinds
use Rattle.td_netlist.specs.declared.fault.Fault.{Fault}
use Rattle.td_netlist.specs.declared.fault.FaultKind.{FaultKind}
use Rattle.td_netlist.specs.declared.fault.FaultKind.TheVariants as kind
use Rattle.td_inputs.specs.declared.topic.Topic.{Topic}
use Rattle.td_inputs.specs.declared.topic.Topic.TheVariants.{First, Second, Hold, At, Pin, HoldInput, Keep}
use Rattle.td_inputs.specs.Labels.{Label, label_in}
use Rattle.td_inputs.specs.Readings.{Fault as WordFault, Bad, Clash, NoInput, TwoForms, fault_in}
use Rattle.td_domain.specs.declared.cubes.Trit.{Trit}
use Rattle.td_source.specs.declared.fault.SourceFault.{SourceFault}
use Rattle.td_source.specs.declared.fault.SourceFault.TheVariants as source
use Rattle.td_certificate.specs.Kinds.{kind_number, kind_name}
use Rattle.td_certificate.specs.Text.{row, trit, first_trits, second_trits}
use Rattle.td_certificate.specs.declared.fault.CertFault.{CertFault}
use Rattle.td_checker.specs.Verdicts.{verdict_number, verdict_name, verdict_line}
use Rattle.td_checker.specs.declared.verdict.Verdict.{Verdict}
use Rattle.td_checker.specs.declared.verdict.CheckFault.{CheckFault}
use Rattle.td_checker.specs.declared.verdict.CheckFault.TheVariants as check
use Rattle.td_join.specs.declared.fault.JoinFault.{JoinFault}
use Rattle.td_join.specs.declared.fault.JoinFault.TheVariants as join
use Rattle.td_search.specs.declared.answers.SearchFault.{SearchFault}
use Rattle.td_search.specs.declared.answers.SearchFault.TheVariants as search
use Rattle.td_question.specs.declared.vector.VectorWord.{VectorWord}
use Rattle.td_question.specs.declared.vector.VectorWord.TheVariants as vector
use Rattle.td_question.specs.declared.quote.Quote.{Quote}
use Rattle.td_question.specs.declared.fault.QuestionFault.{QuestionFault}
use Rattle.td_question.specs.declared.fault.QuestionFault.TheVariants as question
use Rattle.td_lines.specs.Texts.{newline, place_text}
use Rattle.td_answer.specs.declared.difference.Difference.{Difference}
use Rattle.td_answer.specs.declared.difference.Difference.TheVariants as difference
use Rattle.td_answer.specs.declared.refusal.Refusal.{Refusal}
use Rattle.td_answer.specs.declared.refusal.Refusal.TheVariants as refusal

-- ---- words about inputs

abbrev pub vector_word : VectorWord → List ℕ
vector_word vector.From = codes "bad vector FROM"
vector_word vector.To = codes "bad vector TO"
vector_word vector.First = codes "bad vector first"
vector_word vector.Second = codes "bad vector second"
vector_word vector.Hold = codes "bad vector hold"
vector_word vector.At = codes "bad vector at"

-- what a word by name is called
abbrev pub called : Topic → List ℕ
called First = codes "time "
called Second = codes "time "
called Hold = codes "time "
called At = codes "time "
called Pin = codes "pin "
called HoldInput = codes "held input "
called Keep = codes "time "

abbrev pub input_text : Option Label → List ℕ
input_text None = []
input_text (Some label) = label.name

unfoldable pub bad_text : Topic → List ℕ → List ℕ
bad_text topic word = codes "bad " ++ called topic ++ word

-- the line of a file, where it is of one
abbrev pub at_line_text : Option ℕ → List ℕ
at_line_text None = []
at_line_text (Some line) = codes " at line " ++ decimal line

abbrev pub quote_text : Quote → List ℕ
quote_text quote = quote.text.now ++ at_line_text quote.line

unfoldable pub bad_keep_text : Quote → List ℕ
bad_keep_text quote = codes "bad keep " ++ quote_text quote

unfoldable pub no_net_text : Quote → List ℕ
no_net_text name = codes "no net " ++ quote_text name

unfoldable pub no_input_text : List ℕ → List ℕ
no_input_text name = codes "no input " ++ name

unfoldable pub clash_text : Topic → List ℕ → List ℕ → List ℕ
clash_text topic word input = called topic ++ word ++ codes ": another argument differs for input " ++ input

-- what is wrong with a word by name, for inputs that are called so
abbrev pub word_text : WordFault → List Label → List ℕ
word_text (Bad topic word) labels = bad_text topic word
word_text (NoInput name) labels = no_input_text name
word_text (Clash topic word place) labels = clash_text topic word (input_text (slice_get labels place))
word_text TwoForms labels = codes "--at by name and by place"

-- ---- texts

-- the number and the name of a fault of a netlist's text
abbrev pub number_and_name : FaultKind → List ℕ
number_and_name reported = decimal (kinds.kind_number reported) ++ codes " " ++ kinds.kind_name reported

-- the token at which a text leaves the subset, in round brackets
abbrev pub token_text : FaultKind → List ℕ
token_text (kind.OutOfSubset token) = codes " (" ++ token.now ++ codes ")"
token_text other = []

abbrev pub fault_text : Fault → List ℕ
fault_text fault = number_and_name fault.kind ++ codes " at line " ++ decimal fault.line ++ token_text fault.kind

unfoldable pub netlist_text : Fault → List ℕ
netlist_text fault = codes "netlist fault " ++ fault_text fault

unfoldable pub loop_text : Name → List ℕ
loop_text name = codes "circuit fault 1 Loop on " ++ printed name

abbrev pub source_text : SourceFault → List ℕ
source_text source.OutOfMemory = codes "out of memory"
source_text (source.Netlist fault) = netlist_text fault
source_text source.NoOutput = codes "no output of this name"
source_text (source.Loop name) = loop_text (name_of name)

abbrev pub question_text : QuestionFault → List ℕ
question_text question.OutOfMemory = codes "out of memory"
question_text (question.Source fault) = source_text fault
question_text (question.BadName fault labels) = word_text (fault_in fault) (map label_in labels.items)
question_text (question.BadVector word) = vector_word word
question_text (question.BadKeep quote) = bad_keep_text quote
question_text (question.NoNet name) = no_net_text name
question_text question.LongKeepFile = codes "keep file too long"

abbrev pub search_text : SearchFault → List ℕ
search_text search.NoPair = codes "no admitted pair"
search_text search.OutOfMemory = codes "out of memory"

-- the number, the name and the line of a fault of a certificate's text
abbrev pub certificate_fault_text : CertFault → List ℕ
certificate_fault_text fault =
    decimal (kind_number fault.kind) ++ codes " " ++ kind_name fault.kind ++ codes " at line " ++ decimal fault.line

unfoldable pub certificate_text : CertFault → List ℕ
certificate_text fault = codes "certificate fault " ++ certificate_fault_text fault

abbrev pub check_text : CheckFault → List ℕ
check_text check.OutOfMemory = codes "out of memory"
check_text (check.Netlist fault) = netlist_text fault
check_text check.NoOutput = codes "no output of this name"
check_text (check.Loop name) = loop_text (name_of name)
check_text (check.Certificate fault) = certificate_text fault

-- ---- parts

-- a verdict that refuses a certificate, and the line of its text that it is about
unfoldable pub refusing_text : Verdict → List ℕ
refusing_text verdict =
    codes "refused " ++ decimal (verdict_number verdict) ++ codes " " ++ verdict_name verdict ++ place_text (verdict_line verdict)

unfoldable pub unread_text : List ℕ → List ℕ
unread_text name = codes "cannot read " ++ name

unfoldable pub bad_part_text : List ℕ → CertFault → List ℕ
bad_part_text name fault = name ++ codes ": certificate fault " ++ certificate_fault_text fault

unfoldable pub unaccepted_text : List ℕ → Verdict → List ℕ
unaccepted_text name verdict = name ++ codes ": " ++ refusing_text verdict

unfoldable pub other_circuit_text : List ℕ → List ℕ
other_circuit_text name = name ++ codes ": other circuit"

-- two certificates that aren't joined, and why
unfoldable pub two_text : List ℕ → List ℕ → List ℕ → List ℕ
two_text one other why = codes "cannot join " ++ one ++ codes " and " ++ other ++ codes ": " ++ why

-- one that is joined with none, and why
unfoldable pub one_text : List ℕ → List ℕ → List ℕ
one_text one why = one ++ codes ": " ++ why

-- the pins for which a part is missing
unfoldable pub gap_text : List Trit → List ℕ
gap_text pins = codes "no part for --first " ++ row trit (first_trits pins) ++ codes " --second " ++ row trit (second_trits pins)

-- why certificates aren't joined, by the names of their files
abbrev pub unjoined_text : JoinFault (Bor (List ℕ)) → List ℕ
unjoined_text join.OutOfMemory = codes "out of memory"
unjoined_text join.NoCertificate = codes "no certificate"
unjoined_text (join.OtherCircuit one other) = two_text one.now other.now (codes "other circuits")
unjoined_text (join.OtherHold one other) = two_text one.now other.now (codes "other inputs held")
unjoined_text (join.OtherFlips one other) = two_text one.now other.now (codes "other flips")
unjoined_text (join.OtherMoments one other) = two_text one.now other.now (codes "other input times")
unjoined_text (join.OtherTerms one other) = two_text one.now other.now (codes "other terms")
unjoined_text (join.Outside one) = one_text one.now (codes "other pins")
unjoined_text (join.Overlap one other) = two_text one.now other.now (codes "a pair in both")
unjoined_text (join.Crossed one other) = two_text one.now other.now (codes "no position parts them")
unjoined_text (join.Gap cube) = gap_text cube
unjoined_text (join.FalseNone one) = one_text one.now (codes "a leaf without a pair")

-- in what parts are of another question than the one that is asked
abbrev pub other_question_text : Difference → List ℕ
other_question_text difference.Hold = codes "parts of another question: other inputs held"
other_question_text difference.Flips = codes "parts of another question: other flips"
other_question_text difference.Moments = codes "parts of another question: other input times"
other_question_text difference.Conditions = codes "parts of another question: other conditions"

-- ---- the sentence

abbrev pub reason_text : Refusal → List ℕ
reason_text refusal.OutOfMemory = codes "out of memory"
reason_text (refusal.Unread name) = unread_text name.now
reason_text (refusal.Question fault) = question_text fault
reason_text (refusal.NoOutput name) = codes "no output of this name"
reason_text (refusal.Search fault) = search_text fault
reason_text (refusal.Check fault) = check_text fault
reason_text (refusal.BadPart name fault) = bad_part_text name.now fault
reason_text (refusal.Unaccepted name verdict) = unaccepted_text name.now verdict
reason_text (refusal.OtherCircuit name) = other_circuit_text name.now
reason_text (refusal.NotJoined fault) = unjoined_text fault
reason_text (refusal.OtherQuestion found) = other_question_text found
reason_text refusal.TooLong = codes "too many nodes"
reason_text refusal.OutOfTime = codes "out of time"

-- a line
unfoldable pub refusal_text : Refusal → List ℕ
refusal_text refused = codes "tdelay: " ++ reason_text refused ++ newline
