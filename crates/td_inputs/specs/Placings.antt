-- Options by place that say what options by name and by place say together.
use Rattle.std.specs.Prelude.{◌≡◌, ℕ, List, [], ◌∷◌, ◌++◌, map, length, replicate, String, string_bytes, true, false, ◌⊎◌, Option, None, Some, option_map, Result, Ok, Err, if◌then◌else◌}
use Rattle.std.specs.Borrow.{Bor}
use Rattle.td_inputs.specs.declared.placing.Placing.{Placing as CodePlacing}
use Rattle.td_inputs.specs.declared.placing.Placing.TheVariants as code
use Rattle.td_inputs.specs.declared.topic.Topic.{Topic}
use Rattle.td_inputs.specs.declared.topic.Topic.TheVariants.{First, Second, Hold, At, Pin, HoldInput, Keep}
use Rattle.td_inputs.specs.declared.words.ByPlace.{ByPlace}
use Rattle.td_inputs.specs.declared.placing.Given.{Given}
use Rattle.td_inputs.specs.declared.writing.Letters.{Letters}
use Rattle.td_inputs.specs.declared.writing.Letters.TheVariants.{Trits, Holds}
use Rattle.std.specs.Global.{Global}
use Rattle.td_inputs.specs.Labels.{Label}
use Rattle.td_inputs.specs.Topics.{option_of}
use Rattle.td_inputs.specs.Patterns.{moments_text, pattern_text}
use Rattle.td_inputs.specs.Readings.{Cells, Fault, TwoForms, fault_in, has, merge}
use Rattle.td_inputs.specs.Scans.{Taken, Text}

-- the word of an option, where it is given
abbrev pub text_of : Option (Bor Text) → Option Text
text_of word = option_map (λ word. word.now) word

-- the word of an option by place, or left out; or what is wrong with a word of an option by name;
-- or the given word gives nothing for the inputs
pub data Placing : Type 0 where
  Word : Option Text → Placing
  Wrong : Fault → Placing
  Unread : Placing

abbrev pub placing_in : CodePlacing → Placing
placing_in (code.Word word) = Word (option_map (λ word. string_bytes word) word)
placing_in (code.Wrong fault) = Wrong (fault_in fault)
placing_in code.Unread = Unread

-- what the given word of an option by place says of each of that many inputs: nothing where it is
-- left out
abbrev pub GivesCells : Letters → ℕ → Option Text → Cells → Type 0
GivesCells letters count None cells = cells ≡ replicate count None
GivesCells letters count (Some word) cells = (length cells ≡ count) × (word ≡ pattern_text letters cells)

abbrev pub patterned : Letters → Result Cells Fault → Placing
patterned letters (Ok cells) = Word (Some (pattern_text letters cells))
patterned letters (Err fault) = Wrong fault

-- The word of an option by place, into which the words of an option by name are merged. Where there
-- are none it is the given one.
abbrev pub IsPlacing : Letters → Topic → List Label → List Taken → Option Text → Placing → Type 0
IsPlacing letters topic labels taken given placing =
    ((has topic taken ≡ false) × (placing ≡ Word given))
    ⊎ ((has topic taken ≡ true) × ((start : Cells) × GivesCells letters (length labels) given start × (placing ≡ patterned letters (merge topic labels start taken))))
    ⊎ ((has topic taken ≡ true) × (placing ≡ Unread) × ((start : Cells) → ¬ GivesCells letters (length labels) given start))

abbrev pub timed : Result Cells Fault → Placing
timed (Ok cells) = Word (Some (moments_text cells))
timed (Err fault) = Wrong fault

abbrev pub timed_by : List Label → List Taken → Option Text → Placing
timed_by labels taken (Some given) = Wrong TwoForms
timed_by labels taken None = timed (merge At labels (replicate (length labels) None) taken)

-- the word of `--at` by place: it is given by name or by place
abbrev pub placed_moments : List Label → List Taken → Option Text → Placing
placed_moments labels taken given = if has At taken then timed_by labels taken given else Word given

abbrev pub texts_of : List (String Global) → List Text
texts_of words = map (λ (word : String Global). string_bytes word) words

abbrev pub word_of : Option (String Global) → Option Text
word_of word = option_map (λ (word : String Global). string_bytes word) word

-- an option and its word, where it has one
abbrev pub option_words : Topic → Option Text → List Text
option_words topic None = []
option_words topic (Some word) = option_of topic ∷ word ∷ []

-- options by place, each with its word where it isn't left out
pub record Placed : Type 0 where
  pub first : Option Text
  pub second : Option Text
  pub hold : Option Text
  pub at : Option Text

abbrev pub words_by_place : ByPlace → Placed
words_by_place options = record {
  first = word_of options.first;
  second = word_of options.second;
  hold = word_of options.hold;
  at = word_of options.at;
}

-- the words of these options
abbrev pub placed_words : Placed → List Text
placed_words options = option_words First options.first ++ option_words Second options.second ++ option_words Hold options.hold ++ option_words At options.at

abbrev pub given_in : Given → Placed
given_in given = record {
  first = text_of given.first;
  second = text_of given.second;
  hold = text_of given.hold;
  at = text_of given.at;
}

-- the words of the options by place that say what all words say together
pub record ArePlaced (labels : List Label) (taken : List Taken) (given options : Placed) : Type 0 where
  pub first : IsPlacing Trits Pin labels taken given.first (Word options.first)
  pub second : IsPlacing Trits Pin labels taken given.second (Word options.second)
  pub hold : IsPlacing Holds HoldInput labels taken given.hold (Word options.hold)
  pub at : placed_moments labels taken given.at ≡ Word options.at

-- a given word into which a word by name is to be merged gives nothing for the inputs
abbrev pub IsUnread : List Label → List Taken → Placed → Type 0
IsUnread labels taken given =
    IsPlacing Trits Pin labels taken given.first Unread
    ⊎ IsPlacing Trits Pin labels taken given.second Unread
    ⊎ IsPlacing Holds HoldInput labels taken given.hold Unread

-- this is wrong with a word by name
abbrev pub IsWrong : List Label → List Taken → Placed → Fault → Type 0
IsWrong labels taken given fault =
    IsPlacing Trits Pin labels taken given.first (Wrong fault)
    ⊎ IsPlacing Trits Pin labels taken given.second (Wrong fault)
    ⊎ IsPlacing Holds HoldInput labels taken given.hold (Wrong fault)
    ⊎ (placed_moments labels taken given.at ≡ Wrong fault)
