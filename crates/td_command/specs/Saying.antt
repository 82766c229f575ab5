-- What the words of a command say, as a request.
use Rattle.std.specs.Prelude.{◌≡◌, List, [], codes, Bool, true, false, ◌&&◌, ◌||◌, not, Option, Some, None, map}
use Rattle.std.specs.Str.{bytes_eq}
use Rattle.clap.specs.Words.{Row, Text, first_of, subcommand_of}
use Rattle.td_reading.specs.declared.reading.Reading.{Reading}
use Rattle.td_inputs.specs.declared.scanning.Taken.{Taken}
use Rattle.td_inputs.specs.declared.topic.Topic.TheVariants.{At, Pin, HoldInput, Keep}
use Rattle.td_inputs.specs.Readings.{has}
use Rattle.td_inputs.specs.Scans.{Taken as Said, taken_in}
use Rattle.td_request.specs.declared.effort.Effort.{Effort}
use Rattle.td_request.specs.declared.question.Inputs.{Inputs}
use Rattle.td_request.specs.declared.question.Question.{Question}
use Rattle.td_request.specs.declared.request.Command.{Command}
use Rattle.td_request.specs.declared.request.Command.TheVariants as command
use Rattle.td_request.specs.declared.request.Form.{Form}
use Rattle.td_request.specs.declared.request.Form.TheVariants as form
use Rattle.td_request.specs.declared.request.Shown.{Shown}
use Rattle.td_request.specs.declared.request.Strategy.{Strategy}
use Rattle.td_request.specs.declared.request.Strategy.TheVariants as strategy
use Rattle.td_request.specs.declared.request.Sim.{Sim}
use Rattle.td_request.specs.declared.request.Path.{Path}
use Rattle.td_request.specs.declared.request.Bound.{Bound}
use Rattle.td_request.specs.declared.request.Search.{Search}
use Rattle.td_request.specs.declared.request.Parts.{Parts}
use Rattle.td_request.specs.declared.request.Join.{Join}
use Rattle.td_request.specs.declared.request.Check.{Check}
use Rattle.td_request.specs.declared.request.Request.{Request}
use Rattle.td_command.specs.CommandLine.{HasCount, HasWord, HasWords, HasFlag, LacksFlag, HasNumber, HasReading, HasWholeReading, IsGiven, IsTold, kinds_of, program, words_of}
use Rattle.td_command.specs.Tables.{SaysTables}
use Rattle.td_command.specs.declared.words.Words.{Words}
use Rattle.td_command.specs.declared.requests.Common.{Common}

-- what is said of inputs by place in options of the command, and of inputs and nets by name in words
-- that are no options of the parser
pub record SaysInputs (rows : List Row) (named : List Taken) (said : Inputs) : Type 0 where
  pub first : HasWord (codes "first") rows said.given.first
  pub second : HasWord (codes "second") rows said.given.second
  pub hold : HasWord (codes "hold") rows said.given.hold
  pub at : HasWord (codes "at") rows said.given.at
  pub by_name : said.named.now ≡ named

pub record SaysQuestion (rows : List Row) (named : List Taken) (said : Question) : Type 0 where
  pub inputs : SaysInputs rows named said.inputs
  pub flips : HasCount (codes "flips") rows said.flips
  pub keep_file : HasWord (codes "keep-file") rows said.keep_file
  pub unread : said.keep_text ≡ None

abbrev pub strategy_word : Strategy → Text
strategy_word strategy.Least = codes "least"
strategy_word strategy.Lead = codes "lead"
strategy_word strategy.Refute = codes "refute"
strategy_word strategy.Auto = codes "auto"

abbrev pub SaysStrategy : List Row → Strategy → Type 0
SaysStrategy rows said = first_of (codes "strategy") rows ≡ Some (strategy_word said)

pub record SaysEffort (rows : List Row) (said : Effort) : Type 0 where
  pub workers : HasNumber (codes "workers") rows said.workers
  pub budget : HasNumber (codes "budget") rows said.budget
  pub seconds : HasCount (codes "seconds") rows said.seconds
  pub memory : HasCount (codes "memory") rows said.memory

-- with JSON, it is asked for always
abbrev pub SaysWork : List Row → Bool → Type 0
SaysWork rows said =
    (verbose json : Bool) × HasFlag (codes "verbose") rows verbose × HasFlag (codes "json") rows json × (said ≡ (verbose || json))

pub record SaysShown (rows : List Row) (said : Shown) : Type 0 where
  pub path : HasFlag (codes "path") rows said.path
  pub outputs : HasFlag (codes "outputs") rows said.outputs
  pub progress : HasFlag (codes "progress") rows said.progress
  pub work : SaysWork rows said.work
  pub vectors : HasFlag (codes "vectors") rows said.vectors

pub record SaysSim (rows : List Row) (named : List Taken) (said : Sim) : Type 0 where
  pub from : IsGiven (codes "FROM") rows said.from
  pub to : IsGiven (codes "TO") rows said.to
  pub inputs : SaysInputs rows named said.inputs
  pub outputs : HasFlag (codes "outputs") rows said.outputs
  pub dump : HasWord (codes "vcd") rows said.dump
  pub nets : said.nets ≡ words_of (codes "net") rows
  pub seconds : HasCount (codes "seconds") rows said.seconds

pub record SaysPath (rows : List Row) (named : List Taken) (said : Path) : Type 0 where
  pub from : IsGiven (codes "FROM") rows said.from
  pub to : IsGiven (codes "TO") rows said.to
  pub inputs : SaysInputs rows named said.inputs
  pub output : HasWord (codes "output") rows said.output
  pub seconds : HasCount (codes "seconds") rows said.seconds

pub record SaysBound (rows : List Row) (named : List Taken) (said : Bound) : Type 0 where
  pub inputs : SaysInputs rows named said.inputs
  pub flips : HasCount (codes "flips") rows said.flips
  pub required : HasCount (codes "required") rows said.required
  pub edges : HasFlag (codes "edges") rows said.edges
  pub outputs : HasFlag (codes "outputs") rows said.outputs
  pub earliest : HasFlag (codes "earliest") rows said.earliest

pub record SaysWorst (rows : List Row) (named : List Taken) (said : Search) : Type 0 where
  pub question : SaysQuestion rows named said.question
  pub strategy : SaysStrategy rows said.strategy
  pub effort : SaysEffort rows said.effort
  pub stop : HasWord (codes "stop") rows said.stop
  pub required : HasCount (codes "required") rows said.required
  pub certificate : HasWord (codes "cert") rows said.certificate
  pub between : HasFlag (codes "cert-between") rows said.between
  pub dump : HasWord (codes "vcd") rows said.dump
  pub shown : SaysShown rows said.shown
  pub tables : SaysTables rows (record { table = said.table; stray = said.stray })

pub record SaysParts (rows : List Row) (named : List Taken) (said : Parts) : Type 0 where
  pub question : SaysQuestion rows named said.question
  pub strategy : SaysStrategy rows said.strategy
  pub count : HasNumber (codes "parts") rows said.count.parts
  pub required : HasCount (codes "required") rows said.required

pub record SaysJoin (rows : List Row) (named : List Taken) (said : Join) : Type 0 where
  pub parts : HasWords (codes "CERT") rows said.parts
  pub question : SaysQuestion rows named said.question
  pub required : HasCount (codes "required") rows said.required
  pub certificate : HasWord (codes "cert") rows said.certificate
  pub check : LacksFlag (codes "no-check") rows said.check

pub record SaysCheck (rows : List Row) (said : Check) : Type 0 where
  pub certificate : IsGiven (codes "CERT") rows said.certificate
  pub told : IsTold rows said.told
  pub seconds : HasCount (codes "seconds") rows said.seconds

-- the command of this name says this
abbrev pub SaysCommand : Text → List Row → List Taken → Command → Type 0
SaysCommand name rows named (command.Sim said) = (name ≡ codes "sim") × SaysSim rows named said
SaysCommand name rows named (command.Path said) = (name ≡ codes "path") × SaysPath rows named said
SaysCommand name rows named (command.Bound said) = (name ≡ codes "bound") × SaysBound rows named said
SaysCommand name rows named (command.Worst said) = (name ≡ codes "worst") × SaysWorst rows named said
SaysCommand name rows named (command.Parts said) = (name ≡ codes "parts") × SaysParts rows named said
SaysCommand name rows named (command.Join said) = (name ≡ codes "join") × SaysJoin rows named said
SaysCommand name rows named (command.Check said) = (name ≡ codes "check") × SaysCheck rows said
SaysCommand name rows named command.Info = name ≡ codes "info"

-- no report where that is asked for, else JSON where that is
abbrev pub form_by : Bool → Bool → Form
form_by true json = form.Quiet
form_by false true = form.Json
form_by false false = form.Text

abbrev pub SaysForm : List Row → Form → Type 0
SaysForm rows said =
    (quiet json : Bool) × HasFlag (codes "quiet") rows quiet × HasFlag (codes "json") rows json × (said ≡ form_by quiet json)

-- the command of this name is about all outputs
abbrev pub is_about_all : Text → Bool
is_about_all name = bytes_eq name (codes "sim") || (bytes_eq name (codes "path") || bytes_eq name (codes "info"))

-- the netlist's text is read so: of some outputs only where the command asks about those
abbrev pub SaysReading : Text → List Row → Reading → Type 0
SaysReading name rows reading = (is_about_all name ≡ true → HasWholeReading rows reading) × (is_about_all name ≡ false → HasReading rows reading)

pub record SaysCommon (name : Text) (rows : List Row) (said : Common) : Type 0 where
  pub file : IsGiven (codes "FILE") rows said.file
  pub reading : SaysReading name rows said.reading
  pub form : SaysForm rows said.form
  pub hints : HasFlag (codes "hints") rows said.hints

pub record SaysRequest (name : Text) (rows : List Row) (named : List Taken) (said : Request) : Type 0 where
  pub file : IsGiven (codes "FILE") rows said.file
  pub reading : SaysReading name rows said.reading
  pub asks : SaysCommand name rows named said.command
  pub form : SaysForm rows said.form
  pub hints : HasFlag (codes "hints") rows said.hints

-- a command was entered, and says this
abbrev pub EntersRequest : Option (Text × List Row) → List Taken → Request → Type 0
EntersRequest entered named said = (name : Text) × (rows : List Row) × (entered ≡ Some (name, rows)) × SaysRequest name rows named said

-- the words of a command line, but for those about inputs and nets by name
abbrev pub plain_of : Words → List Text
plain_of words = map (λ word. word.now) words.plain.items

-- the command of this name takes what is said of inputs and nets by name
abbrev pub takes : Text → List Said → Bool
takes name named =
    let searches = bytes_eq name (codes "worst") || (bytes_eq name (codes "parts") || bytes_eq name (codes "join")) in
    let pins = searches || bytes_eq name (codes "bound") in
    let moments = searches || (bytes_eq name (codes "bound") || (bytes_eq name (codes "sim") || bytes_eq name (codes "path"))) in
    (pins || not (has Pin named)) && ((pins || not (has HoldInput named)) && ((searches || not (has Keep named)) && (moments || not (has At named))))

abbrev pub takes_entered : Option (Text × List Row) → List Said → Bool
takes_entered None named = true
takes_entered (Some entered) named = takes entered.0 named

-- the command of the words takes what they say by name
abbrev pub take_names : Words → Bool
take_names words = takes_entered (subcommand_of program (plain_of words)) (map taken_in words.named.items)

-- The program takes the words, but for those by name, which their command takes, and they ask for
-- this.
pub record AskFor (words : Words) (said : Request) : Type 0 where
  pub taken : kinds_of (plain_of words) ≡ []
  pub names : take_names words ≡ true
  pub asks : EntersRequest (subcommand_of program (plain_of words)) words.named.items said

-- whatever else is said by name, words that the program takes ask for a command
abbrev pub TakenAsk : Type 0
TakenAsk = (words : List Text) (named : List Taken) → kinds_of words ≡ [] → (said : Request) × EntersRequest (subcommand_of program words) named said
