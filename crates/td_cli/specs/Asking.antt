-- What a request asks, as its JSON says it: members with their keys and values.
use Rattle.std.specs.Prelude.{ℕ, Bool, true, false, ◌||◌, List, [], ◌∷◌, ◌++◌, map, codes, decimal, Option, None, Some}
use Rattle.std.specs.Borrow.{Bor}
use Rattle.json.specs.Json.{Json, number, string, array}
use Rattle.td_gates.specs.declared.timing.Delay.{Delay}
use Rattle.td_inputs.specs.declared.placing.Given.{Given}
use Rattle.td_inputs.specs.declared.scanning.Taken.{Taken}
use Rattle.td_inputs.specs.Topics.{option_of}
use Rattle.td_reading.specs.declared.reading.Reading.{Reading}
use Rattle.td_reading.specs.declared.told.Told.{Told}
use Rattle.td_checker.specs.Checks.{told_all}
use Rattle.td_lines.specs.Asked.{Question}
use Rattle.td_lines.specs.Said.{Entry, option_value}
use Rattle.td_lines.specs.Values.{delays_value, items_by}
use Rattle.td_request.specs.declared.question.Inputs.{Inputs}
use Rattle.td_request.specs.declared.question.Question.{Question as SearchQuestion}
use Rattle.td_request.specs.declared.request.Command.{Command}
use Rattle.td_request.specs.declared.request.Command.TheVariants as command
use Rattle.td_request.specs.declared.request.Request.{Request}
use Rattle.td_request.specs.declared.request.Sim.{Sim}
use Rattle.td_request.specs.declared.request.Path.{Path}
use Rattle.td_request.specs.declared.request.Bound.{Bound}

abbrev pub command_word : Command → List ℕ
command_word (command.Sim asked) = codes "sim"
command_word (command.Path asked) = codes "path"
command_word (command.Bound asked) = codes "bound"
command_word (command.Worst asked) = codes "worst"
command_word (command.Parts asked) = codes "parts"
command_word (command.Join asked) = codes "join"
command_word (command.Check asked) = codes "check"
command_word command.Info = codes "info"

-- a word, where it is said
abbrev pub word_entry : List ℕ → Option (Bor (List ℕ)) → List Entry
word_entry key None = []
word_entry key (Some word) = (key, string word.now) ∷ []

-- a number, where it is said
abbrev pub count_entry : List ℕ → Option ℕ → List Entry
count_entry key None = []
count_entry key (Some count) = (key, number (decimal count)) ∷ []

abbrev pub strings : List (List ℕ) → Json
strings words = array (items_by string words)

-- the delays of gates that state none, where they are told
abbrev pub default_entry : Bool → Delay → List Entry
default_entry false delay = []
default_entry true delay = (codes "default", delays_value delay.rise delay.fall) ∷ []

-- the outputs that are asked about, where they are told: all, where none is named
abbrev pub output_entry : Bool → List (List ℕ) → List Entry
output_entry false names = []
output_entry true names = (codes "output", strings names) ∷ []

abbrev pub reading_entries : Told → Reading → List Entry
reading_entries told reading = default_entry (told.rise || told.fall) reading.default ++ output_entry told.outputs reading.outputs

-- what a command is told of a reading: all, but for a check
abbrev pub told_of : Command → Told
told_of (command.Sim asked) = told_all
told_of (command.Path asked) = told_all
told_of (command.Bound asked) = told_all
told_of (command.Worst asked) = told_all
told_of (command.Parts asked) = told_all
told_of (command.Join asked) = told_all
told_of (command.Check asked) = asked.told
told_of command.Info = told_all

-- an option and its word
abbrev pub taken_words : Taken → List ℕ × List ℕ
taken_words taken = (option_of taken.topic, taken.text.now)

-- the options by name, in order
abbrev pub named_entry : List Taken → List Entry
named_entry named = (codes "named", array (items_by option_value (map taken_words named))) ∷ []

-- what is said of the inputs, by place and by name
abbrev pub inputs_entries : Inputs → List Entry
inputs_entries inputs =
    word_entry (codes "first") inputs.given.first ++ (word_entry (codes "second") inputs.given.second
    ++ (word_entry (codes "hold") inputs.given.hold ++ (word_entry (codes "at") inputs.given.at ++ named_entry inputs.named.now)))

abbrev pub pair_entries : Bor (List ℕ) → Bor (List ℕ) → Inputs → List Entry
pair_entries from to inputs =
    (codes "from", string from.now) ∷ (codes "to", string to.now) ∷ inputs_entries inputs

abbrev pub bound_entries : Bound → List Entry
bound_entries asked =
    inputs_entries asked.inputs ++ (count_entry (codes "flips") asked.flips ++ count_entry (codes "required") asked.required)

-- which pairs are asked about, and by which moment outputs are to settle
abbrev pub search_entries : SearchQuestion → Option ℕ → List Entry
search_entries question required =
    inputs_entries question.inputs ++ (word_entry (codes "keep_file") question.keep_file
    ++ (count_entry (codes "flips") question.flips ++ count_entry (codes "required") required))

abbrev pub command_entries : Command → List Entry
command_entries (command.Sim asked) = pair_entries asked.from asked.to asked.inputs
command_entries (command.Path asked) = pair_entries asked.from asked.to asked.inputs ++ word_entry (codes "net") asked.output
command_entries (command.Bound asked) = bound_entries asked
command_entries (command.Worst asked) = search_entries asked.question asked.required
command_entries (command.Parts asked) = search_entries asked.question asked.required
command_entries (command.Join asked) = search_entries asked.question asked.required
command_entries (command.Check asked) = (codes "certificate", string asked.certificate.now) ∷ []
command_entries command.Info = []

abbrev pub asked_of : Request → Question
asked_of request = record {
  command = command_word request.command;
  file = request.file.now;
  entries = reading_entries (told_of request.command) request.reading ++ command_entries request.command;
}
