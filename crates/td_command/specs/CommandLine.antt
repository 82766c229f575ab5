-- The command line in the form that the parser of command lines takes, and what the words ask for.
use Rattle.std.specs.Prelude.{◌≡◌, ℕ, ◌≤◌, ◌<◌, ◌^◌, Bool, List, [], ◌∷◌, ◌++◌, codes, find, length, map, not, pos, true, false, Option, Some, None, option_map, option_and_then}
use Rattle.std.specs.Borrow.{Bor}
use Rattle.std.specs.List.{fold}
use Rattle.std.specs.Option.{option_map_or}
use Rattle.std.specs.Str.{bytes_eq}
use Rattle.std.specs.Str.Parse.{IsNumeral, digits_value, without_leading_plus}
use Rattle.clap.specs.Words.{App, Kinds, Row, Rule, Text, all_of, fault_of, first_of, new_app, new_rule, one_of, with_rule, with_subcommand}
use Rattle.clap.specs.Values.{bool_text}
use Rattle.clap.specs.declared.builder.action.ArgAction.TheVariants.{Append, SetTrue}
use Rattle.clap.specs.declared.parser.matches.ValueSource.{ValueSource}
use Rattle.clap.specs.declared.parser.matches.ValueSource.TheVariants.{DefaultValue, CommandLine}
use Rattle.clap.specs.declared.builder.value_parser.ValueParser.TheVariants.{Names, Signed, Unsigned}
use Rattle.td_gates.specs.Delays.{Delays, IsInRange}
use Rattle.td_reading.specs.declared.reading.Reading.{Reading}
use Rattle.td_reading.specs.declared.told.Told.{Told}

-- ---- what the parser is given

-- a word of its own, which has to be given
abbrev pub needed : Text → Rule
needed id = record (new_rule id) { required = true }

-- words of their own, one or more, which have to be given
abbrev pub needed_words : Text → Rule
needed_words id = record (needed id) { action = Some Append }

-- an option with a text
abbrev pub option : Text → Rule
option id = record (new_rule id) { long = Some id; value_names = 1 }

-- an option with a number in a range, and its value where it is left out
abbrev pub number_option : Text → ℕ → ℕ → Text → Rule
number_option id least most left_out =
    record (option id) { parser = Some (Signed (pos least) (pos most)); defaults = left_out ∷ [] }

-- an option with a number in a range, which has to be given
abbrev pub needed_number : Text → ℕ → ℕ → Rule
needed_number id least most = record (option id) { parser = Some (Signed (pos least) (pos most)); required = true }

-- an option with any number of 64 bits, and none where it is left out
abbrev pub count_option : Text → Rule
count_option id = record (option id) { parser = Some (Unsigned 0 18446744073709551615) }

-- a list of references to texts: the form in which the parser takes the names that an option may
-- have
abbrev pub Listed : Type 0
Listed = Bor (List (Bor Text))

abbrev pub texts_of : Listed → List Text
texts_of names = map (λ name. name.now) names.now

-- An option about an input or a net by its name, of which the parser takes no value: it gets
-- words without them, and where one still stands, the words have a fault.
abbrev pub named_option : Text → Rule
named_option id = record (option id) { parser = Some (Unsigned 1 0) }

-- an option that has a letter too
abbrev pub with_letter : ℕ → Rule → Rule
with_letter letter rule = record rule { short = Some letter }

-- the letters of three options: j, o and q
abbrev pub workers_letter : ℕ
workers_letter = 106

abbrev pub out_letter : ℕ
out_letter = 111

abbrev pub quiet_letter : ℕ
quiet_letter = 113

-- an option with one of a few names, and its value where it is left out
abbrev pub name_option : Text → Listed → Text → Rule
name_option id names left_out = record (option id) { parser = Some (Names names); defaults = left_out ∷ [] }

-- an option without a value
abbrev pub flag : Text → Rule
flag id = record (new_rule id) { long = Some id; action = Some SetTrue }

-- what all commands take: the delays of gates that state none, whether hints follow a refusal, and
-- whether the report is JSON, or is left out
abbrev pub common_rules : List Rule
common_rules =
    number_option (codes "default-rise") 1 1000000000 (codes "1") ∷ number_option (codes "default-fall") 1 1000000000 (codes "1") ∷
    flag (codes "hints") ∷ flag (codes "json") ∷ with_letter quiet_letter (flag (codes "quiet")) ∷ []

-- a netlist and a pair of vectors
abbrev pub pair_rules : List Rule
pair_rules = needed (codes "FILE") ∷ needed (codes "FROM") ∷ needed (codes "TO") ∷ []

-- the pairs of a cube, by the trits of their two vectors, or by names of inputs
abbrev pub cube_rules : List Rule
cube_rules = option (codes "first") ∷ option (codes "second") ∷ named_option (codes "pin") ∷ []

-- which inputs are held, by place or by their names
abbrev pub held_rules : List Rule
held_rules = option (codes "hold") ∷ named_option (codes "hold-input") ∷ []

-- the most flips
abbrev pub flips_rule : Rule
flips_rule = count_option (codes "flips")

-- the pairs that a search admits: those of a cube, where some inputs are held, nets meet conditions
-- and the number of flips has a limit
abbrev pub admitted_rules : List Rule
admitted_rules = cube_rules ++ held_rules ++ named_option (codes "keep") ∷ option (codes "keep-file") ∷ flips_rule ∷ []

-- by which moment outputs are to settle
abbrev pub required_rule : Rule
required_rule = count_option (codes "required")

-- by which strategy a search goes
abbrev pub strategy_rule : Listed → Rule
strategy_rule strategies = name_option (codes "strategy") strategies (codes "auto")

-- where a certificate goes
abbrev pub certificate_rule : Rule
certificate_rule = with_letter out_letter (option (codes "cert"))

-- which outputs are asked about, of which any number may be named
abbrev pub outputs_rule : Rule
outputs_rule = record (option (codes "output")) { action = Some Append }

-- which nets a dump has, of which any number may be named
abbrev pub nets_rule : Rule
nets_rule = record (option (codes "net")) { action = Some Append }

-- after how many seconds a run ends
abbrev pub seconds_rule : Rule
seconds_rule = count_option (codes "seconds")

-- how much a search may do, and what ends it before
abbrev pub limit_rules : List Rule
limit_rules =
    number_option (codes "budget") 0 10000000 (codes "1000000") ∷ seconds_rule ∷ count_option (codes "memory") ∷ option (codes "stop") ∷ []

-- how a search goes, when its answer is enough, and where its certificate goes
abbrev pub search_rules : Listed → List Rule
search_rules strategies =
    with_letter workers_letter (number_option (codes "workers") 1 64 (codes "1")) ∷ strategy_rule strategies ∷ limit_rules
    ++ required_rule ∷ certificate_rule ∷ flag (codes "cert-between") ∷ []

-- the command of this name, which takes these arguments, and those of all commands after them
abbrev pub command_of : Text → List Rule → App
command_of name rules = fold with_rule (new_app name) (rules ++ common_rules)

abbrev pub sim_command : App
sim_command =
    command_of (codes "sim") (pair_rules ++ option (codes "at") ∷ option (codes "vcd") ∷ nets_rule ∷ flag (codes "outputs") ∷ seconds_rule ∷ [])

abbrev pub path_command : App
path_command = command_of (codes "path") (pair_rules ++ option (codes "at") ∷ option (codes "output") ∷ seconds_rule ∷ [])

abbrev pub bound_command : App
bound_command =
    command_of (codes "bound") (needed (codes "FILE") ∷ cube_rules ++ held_rules ++ flips_rule ∷ option (codes "at") ∷ required_rule ∷
    flag (codes "edges") ∷ flag (codes "earliest") ∷ flag (codes "outputs") ∷ outputs_rule ∷ [])

-- which table is asked for, of each output by itself
abbrev pub table_rules : List Rule
table_rules = flag (codes "each") ∷ flag (codes "changes") ∷ flag (codes "figures") ∷ flag (codes "vectors") ∷ flag (codes "hazards") ∷ []

abbrev pub worst_command : Listed → App
worst_command strategies =
    command_of (codes "worst") (needed (codes "FILE") ∷ admitted_rules ++ option (codes "at") ∷ search_rules strategies
    ++ option (codes "vcd") ∷ flag (codes "path") ∷ flag (codes "progress") ∷ flag (codes "verbose") ∷ flag (codes "outputs") ∷ outputs_rule ∷ table_rules)

abbrev pub parts_command : Listed → App
parts_command strategies =
    command_of (codes "parts") (needed (codes "FILE") ∷ needed_number (codes "parts") 1 65536 ∷ admitted_rules
    ++ option (codes "at") ∷ strategy_rule strategies ∷ required_rule ∷ outputs_rule ∷ [])

abbrev pub join_command : App
join_command =
    command_of (codes "join") (needed (codes "FILE") ∷ needed_words (codes "CERT") ∷ count_option (codes "required") ∷ certificate_rule ∷ flag (codes "check")
    ∷ flag (codes "no-check") ∷ admitted_rules ++ option (codes "at") ∷ outputs_rule ∷ [])

abbrev pub check_command : App
check_command = command_of (codes "check") (needed (codes "FILE") ∷ needed (codes "CERT") ∷ outputs_rule ∷ seconds_rule ∷ [])

abbrev pub info_command : App
info_command = command_of (codes "info") (needed (codes "FILE") ∷ [])

-- the program before it is given its commands: it has a version, which each of them has too, and one
-- of them has to be given
abbrev pub bare : App
bare =
    let named : App = new_app (codes "tdelay") in
    record named { top = record named.top { subcommand_required = true; has_version = true; propagate_version = true } }

abbrev pub commands : Listed → List App
commands strategies =
    sim_command ∷ path_command ∷ bound_command ∷ worst_command strategies ∷ parts_command strategies ∷ join_command ∷ check_command ∷ info_command ∷ []

abbrev pub program_of : Listed → App
program_of strategies = fold with_subcommand bare (map (λ command. command.top) (commands strategies))

-- the names of the strategies
abbrev pub strategy_names : List Text
strategy_names = codes "least" ∷ codes "lead" ∷ codes "refute" ∷ codes "auto" ∷ []

-- what the parser is given with the names of the strategies, wherever in memory they stand
pub record IsOfStrategies (reported_with : Listed → App) (reported : App) : Type 0 where
  pub strategies : Listed
  pub named : texts_of strategies ≡ strategy_names
  pub is : reported ≡ reported_with strategies

-- a reference to a value, which may stand anywhere
abbrev pub behind : {X : Type 0} → X → Bor X
behind x = record { ref_ptr = (0, 0); now = x }

abbrev pub listed : List Text → Listed
listed texts = behind (map behind texts)

-- the program; what it makes of words doesn't depend on where in memory the names stand
abbrev pub program : App
program = program_of (listed strategy_names)

-- ---- what the words ask for

-- the text is this number in decimal digits, which a plus may lead
abbrev pub IsNumber : Text → ℕ → Type 0
IsNumber text number = IsNumeral 10 (without_leading_plus text) × (digits_value 10 (without_leading_plus text) ≡ number)

-- the option is given as this number, or left out and has it
abbrev pub HasNumber : Text → List Row → ℕ → Type 0
HasNumber id rows number = (text : Text) × (one_of id rows ≡ Some text) × IsNumber text number

-- the option is given as this number of 64 bits, or left out
abbrev pub HasCount : Text → List Row → Option ℕ → Type 0
HasCount id rows None = first_of id rows ≡ None
HasCount id rows (Some number) = HasNumber id rows number × (number < 2 ^ 64)

-- the option is given as this word, or left out
abbrev pub HasWord : Text → List Row → Option (Bor Text) → Type 0
HasWord id rows word = first_of id rows ≡ option_map (λ word. word.now) word

-- the argument, which has to be given, is this word
abbrev pub IsGiven : Text → List Row → Bor Text → Type 0
IsGiven id rows word = first_of id rows ≡ Some word.now

-- the argument is given as these words, all of them in order, of which there is one
abbrev pub HasWords : Text → List Row → List Text → Type 0
HasWords id rows words = (all_of id rows ≡ Some words) × (0 < length words)

-- the flag is given, or left out
abbrev pub HasFlag : Text → List Row → Bool → Type 0
HasFlag id rows given = one_of id rows ≡ Some (bool_text given)

-- the flag is left out, or given
abbrev pub LacksFlag : Text → List Row → Bool → Type 0
LacksFlag id rows left_out = HasFlag id rows (not left_out)

abbrev pub delays : ℕ → ℕ → Delays
delays rise fall = record { rise = rise; fall = fall }

-- the delays of the options, which are in range
pub record HasDefault (rows : List Row) (default : Delays) : Type 0 where
  pub rise : HasNumber (codes "default-rise") rows default.rise
  pub fall : HasNumber (codes "default-fall") rows default.fall
  pub in_range : IsInRange default

-- the words of an option, in order; none where it is left out
abbrev pub words_of : Text → List Row → List Text
words_of id rows = option_map_or (λ words. words) (all_of id rows) []

-- the netlist's text is read so, of the outputs that the option names
pub record HasReading (rows : List Row) (reading : Reading) : Type 0 where
  pub default : HasDefault rows reading.default
  pub outputs : reading.outputs ≡ words_of (codes "output") rows

-- the netlist's text is read so, of all outputs
pub record HasWholeReading (rows : List Row) (reading : Reading) : Type 0 where
  pub default : HasDefault rows reading.default
  pub outputs : reading.outputs ≡ []

-- where the value of an option comes from
abbrev pub source_in : Text → List Row → Option ValueSource
source_in id rows = option_and_then (λ row. row.source) (find (λ row. bytes_eq row.id id) rows)

abbrev pub is_of_words : Option ValueSource → Bool
is_of_words None = false
is_of_words (Some DefaultValue) = false
is_of_words (Some CommandLine) = true

-- the words give this option a value
abbrev pub is_told : Text → List Row → Bool
is_told id rows = is_of_words (source_in id rows)

-- this is what the words tell of how the netlist's text is read
pub record IsTold (rows : List Row) (told : Told) : Type 0 where
  pub rise : told.rise ≡ is_told (codes "default-rise") rows
  pub fall : told.fall ≡ is_told (codes "default-fall") rows
  pub outputs : told.outputs ≡ is_told (codes "output") rows

-- the most nodes of a search
abbrev pub HasBudget : List Row → ℕ → Type 0
HasBudget rows budget = HasNumber (codes "budget") rows budget × (budget ≤ 10000000)

-- how many threads search
abbrev pub HasWorkers : List Row → ℕ → Type 0
HasWorkers rows workers = HasNumber (codes "workers") rows workers × (0 < workers) × (workers ≤ 64)

-- how many parts a question has
abbrev pub HasParts : List Row → ℕ → Type 0
HasParts rows parts = HasNumber (codes "parts") rows parts × (0 < parts) × (parts ≤ 65536)

-- the kinds of what there is to report of the words in place of a command: help, the version, or a
-- fault of theirs; none where the program takes them
abbrev pub kinds_of : List Text → Kinds
kinds_of words = fault_of program words

-- the answer is what is asked, none where nothing is
abbrev pub IsAnswered : {X : Type 0} → (X → Type 0) → Option X → Type 0
IsAnswered AsksFor (Some asked) = AsksFor asked
IsAnswered {X} AsksFor None = (asked : X) → ¬ AsksFor asked
