-- What is true of the outcome of `parts`.
use Rattle.std.specs.Prelude.{◌≡◌, ◌<◌, ◌≤◌, ◌==◌, ℕ, List, [], ◌∷◌, ◌++◌, if◌then◌else◌, All, map, codes, decimal, length, Option, Some, None}
use Rattle.std.specs.Borrow.{Bor}
use Rattle.std.specs.List.{flat_map}
use Rattle.td_reading.specs.declared.reading.Reading.{Reading}
use Rattle.td_circuit.specs.Settings.{Setting}
use Rattle.td_domain.specs.declared.cubes.Trit.{Trit}
use Rattle.td_domain.specs.Admits.{HasAdmitted}
use Rattle.td_refutation.specs.Asking.{Asking}
use Rattle.td_certificate.specs.Text.{row, trit, first_trits, second_trits}
use Rattle.td_search.specs.Problems.{IsPart}
use Rattle.td_search.specs.declared.answers.SearchFault.TheVariants as search
use Rattle.td_worst.specs.Methods.{tree_of}
use Rattle.td_join.specs.Partition.{IsPartition}
use Rattle.td_parts.specs.Whole.{IsWhole}
use Rattle.td_inputs.specs.Placings.{Placed, text_of}
use Rattle.td_request.specs.declared.request.Parts.{Parts}
use Rattle.td_question.specs.Asking.{IsAskedKeeping, IsQuestionFault, SayTogether, taken_of}
use Rattle.td_question.specs.Keeping.{keep_texts}
use Rattle.td_lines.specs.declared.line.Line.{Line}
use Rattle.td_lines.specs.declared.line.Line.TheVariants as line
use Rattle.td_answer.specs.Methods.{method_of}
use Rattle.td_answer.specs.Searches.{AdmitsNone}
use Rattle.td_answer.specs.declared.outcome.Outcome.{Outcome}
use Rattle.td_answer.specs.declared.refusal.Refusal.{Refusal}
use Rattle.td_answer.specs.declared.refusal.Refusal.TheVariants as refusal
use Rattle.td_answer.specs.declared.status.Status.TheVariants.{Done}

-- an option and its word, where it is given
abbrev pub given_words : List ℕ → Option (List ℕ) → List (List ℕ)
given_words name None = []
given_words name (Some word) = name ∷ word ∷ []

-- an option and its number, where it is given
abbrev pub number_words : List ℕ → Option ℕ → List (List ℕ)
number_words name None = []
number_words name (Some number) = name ∷ decimal number ∷ []

-- a default delay, where it isn't that of one step
abbrev pub default_words : List ℕ → ℕ → List (List ℕ)
default_words name steps = if steps == 1 then [] else (name ∷ decimal steps ∷ [])

abbrev pub pins_words : List Trit → List (List ℕ)
pins_words pins = codes "--first" ∷ row trit (first_trits pins) ∷ codes "--second" ∷ row trit (second_trits pins) ∷ []

-- what the question says of the pairs of each part and of moments
abbrev pub question_words : Placed → Option ℕ → List (List ℕ)
question_words words flips = given_words (codes "--hold") words.hold ++ number_words (codes "--flips") flips ++ given_words (codes "--at") words.at

-- and what is required of them
abbrev pub asked_words : Placed → Option ℕ → Option ℕ → List (List ℕ)
asked_words words flips required = question_words words flips ++ number_words (codes "--required") required

-- the option of each condition
abbrev pub keep_options : List (List ℕ) → List (List ℕ)
keep_options words = flat_map (λ word. codes "--keep" ∷ word ∷ []) words

-- the options of conditions, and that of a file of them
abbrev pub condition_words : List (List ℕ) → Option (List ℕ) → List (List ℕ)
condition_words keep file = keep_options keep ++ given_words (codes "--keep-file") file

-- the option of each output that is asked about
abbrev pub outputs_words : List (List ℕ) → List (List ℕ)
outputs_words names = flat_map (λ name. codes "--output" ∷ name ∷ []) names

-- Internal: the option of one condition.
abbrev pub keep_option : Bor (List ℕ) → List (List ℕ)
keep_option word = codes "--keep" ∷ word.now ∷ []

-- Internal: the option of one output.
abbrev pub output_words : Bor (List ℕ) → List (List ℕ)
output_words name = codes "--output" ∷ name.now ∷ []

-- how the netlist's text is read
abbrev pub reading_words : Reading → List (List ℕ)
reading_words reading =
    default_words (codes "--default-rise") reading.default.rise ++ default_words (codes "--default-fall") reading.default.fall
    ++ outputs_words reading.outputs

-- the options by which `worst` searches the part with these pins
abbrev pub part_words : Reading → Placed → Option ℕ → Option ℕ → List (List ℕ) → Option (List ℕ) → List Trit → List (List ℕ)
part_words reading words flips required keep file pins =
    pins_words pins ++ asked_words words flips required ++ condition_words keep file ++ reading_words reading

-- the options of the parts of a question, with words by place that say what all its words say
abbrev pub options_of : Reading → Parts → Placed → List (List Trit) → List (List (List ℕ))
options_of reading asked words cubes =
    map (part_words reading words asked.question.flips asked.required (keep_texts (taken_of asked.question.inputs)) (text_of asked.question.keep_file)) cubes

-- the line has the options of each part
abbrev pub HasParts : List (List (List ℕ)) → Line → Type 0
HasParts options (line.Parts parts) = map (λ part. part.words.items) parts.items ≡ options
HasParts options other = ⊥

-- The report has a line for each cube. There are at most as many cubes as parts are asked for, at
-- least one, and fewer only where a search would split none of them. They share out the admitted
-- pairs of what the request asks of the text: each pair lies in exactly one cube, and each cube has
-- one. No cube has a pair that isn't one of the pins. The options by place say what all words of
-- the request say together.
pub record IsTrueParts (text : List ℕ) (reading : Reading) (asked : Parts) (outcome : Outcome) : Type 0 where
  pub setting : Setting
  pub asking : Asking
  pub about : IsAskedKeeping text reading asked.question setting asking
  pub words : Placed
  pub together : SayTogether setting.netlist asked.question.inputs words
  pub cubes : List (List Trit)
  pub partition : IsPartition asking.admit cubes
  pub any : 0 < length cubes
  pub few : length cubes ≤ asked.count.parts
  pub enough : length cubes < asked.count.parts → All (IsWhole (tree_of (method_of asked.strategy)) setting) cubes
  pub some : All (HasAdmitted asking.admit) cubes
  pub inside : All (λ cube. IsPart cube asking.admit.pins) cubes
  pub told : Line
  pub has : HasParts (options_of reading asked words cubes) told
  pub is : outcome.report ≡ told ∷ []
  pub ends : outcome.status ≡ Done

abbrev pub IsRefusedParts : List ℕ → Reading → Parts → Refusal → Type 0
IsRefusedParts text reading asked refusal.OutOfMemory = Unit {0}
IsRefusedParts text reading asked (refusal.Question found) = IsQuestionFault text reading asked.question found
IsRefusedParts text reading asked (refusal.Search search.NoPair) = AdmitsNone text reading asked.question
IsRefusedParts text reading asked other = ⊥
