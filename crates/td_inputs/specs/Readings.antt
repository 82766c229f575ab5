-- What the words of options by name say of inputs.
use Rattle.std.specs.Prelude.{ℕ, List, [], ◌∷◌, Bool, true, false, ◌==◌, Option, None, Some, Result, Ok, Err, if◌then◌else◌}
use Rattle.std.specs.Global.{Vec}
use Rattle.td_inputs.specs.declared.sayings.WordFault.{WordFault}
use Rattle.td_inputs.specs.declared.sayings.WordFault.TheVariants as code
use Rattle.td_inputs.specs.declared.topic.Topic.{Topic}
use Rattle.td_inputs.specs.declared.topic.Topic.TheVariants.{First, Second, Hold, At, Pin, HoldInput, Keep}
use Rattle.td_inputs.specs.declared.value.Value.{Value}
use Rattle.td_inputs.specs.declared.value.Value.TheVariants.{Each}
use Rattle.td_inputs.specs.Cells.{clash_from, moment_of, named_count, pin_value, said, together}
use Rattle.td_inputs.specs.Labels.{Label}
use Rattle.td_inputs.specs.Scans.{Taken, Text, cut}

-- what is wrong with a word of an option by name
pub data Fault : Type 0 where
  Bad : Topic → Text → Fault
  NoInput : Text → Fault
  Clash : Topic → Text → ℕ → Fault
  TwoForms : Fault

abbrev pub Cells : Type 0
Cells = List (Option ℕ)

abbrev pub fault_in : WordFault → Fault
fault_in (code.Bad topic text) = Bad topic text.now
fault_in (code.NoInput name) = NoInput name.now
fault_in (code.Clash topic text place) = Clash topic text.now place
fault_in code.TwoForms = TwoForms

abbrev pub reading_in : Result (Vec (Option ℕ)) WordFault → Result Cells Fault
reading_in (Ok cells) = Ok cells.items
reading_in (Err fault) = Err (fault_in fault)

-- the name and the value in a word of an option by name; an input that is held has no value
abbrev pub named_parts : Topic → Text → Option (Text × Text)
named_parts First text = cut 61 text
named_parts Second text = cut 61 text
named_parts Hold text = cut 61 text
named_parts At text = cut 61 text
named_parts Pin text = cut 61 text
named_parts HoldInput text = Some (text, [])
named_parts Keep text = cut 61 text

-- what the value in a word says, where it names that many inputs; a condition on a net says nothing
-- of inputs
abbrev pub value_by : Topic → ℕ → Text → Option Value
value_by First count text = None
value_by Second count text = None
value_by Hold count text = None
value_by At count text = moment_of text
value_by Pin count text = pin_value count text
value_by HoldInput count text = Some (Each 1)
value_by Keep count text = None

abbrev pub reading_value : List Label → Taken → Text → Option Value → Result Cells Fault
reading_value labels taken name None = Err (Bad taken.topic taken.text)
reading_value labels taken name (Some value) = Ok (said name value labels)

abbrev pub reading_parts : List Label → Taken → Option (Text × Text) → Result Cells Fault
reading_parts labels taken None = Err (Bad taken.topic taken.text)
reading_parts labels taken (Some parts) =
    if named_count parts.0 labels == 0 then Err (NoInput parts.0)
    else reading_value labels taken parts.0 (value_by taken.topic (named_count parts.0 labels) parts.1)

-- what a word of an option by name says of each input, or what is wrong with it
abbrev pub reading : List Label → Taken → Result Cells Fault
reading labels taken = reading_parts labels taken (named_parts taken.topic taken.text)

-- two options by name are the same
abbrev pub same_topic : Topic → Topic → Bool
same_topic Pin Pin = true
same_topic HoldInput HoldInput = true
same_topic At At = true
same_topic Keep Keep = true
same_topic one other = false

-- an option by name is among those taken
abbrev pub has : Topic → List Taken → Bool
has topic [] = false
has topic (taken ∷ rest) = if same_topic topic taken.topic then true else has topic rest

abbrev pub joined_at : Cells → Cells → Taken → Option ℕ → Result Cells Fault
joined_at cells more taken (Some place) = Err (Clash taken.topic taken.text place)
joined_at cells more taken None = Ok (together cells more)

abbrev pub joined_with : Cells → Taken → Result Cells Fault → Result Cells Fault
joined_with cells taken (Err fault) = Err fault
joined_with cells taken (Ok more) = joined_at cells more taken (clash_from 0 cells more)

-- what was said of each input, and what one word more says; where it says something else of an
-- input, that is wrong with it
abbrev pub joined_by : List Label → Cells → Taken → Result Cells Fault
joined_by labels cells taken = joined_with cells taken (reading labels taken)

-- the same, where the word may be of another option, and then says nothing
abbrev pub step : Topic → List Label → Cells → Taken → Result Cells Fault
step topic labels cells taken = if same_topic topic taken.topic then joined_by labels cells taken else Ok cells

-- what these cells and all words of an option by name say of each input, or what is wrong with the
-- first word with which something is
abbrev pub merge : Topic → List Label → Cells → List Taken → Result Cells Fault
merge topic labels cells [] = Ok cells
merge topic labels cells (taken ∷ rest) =
    elim (step topic labels cells taken) [ Ok more ↦ merge topic labels more rest | Err fault ↦ Err fault ]
