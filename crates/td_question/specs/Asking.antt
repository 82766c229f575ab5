-- What a request asks of a netlist's text.
use Rattle.std.specs.Prelude.{◌≡◌, ◌⊎◌, ℕ, min, nat_lt, Bool, true, false, List, [], ◌∷◌, ◌++◌, length, map, Option, Some, None}
use Rattle.std.specs.Borrow.{Bor}
use Rattle.td_reading.specs.declared.reading.Reading.{Reading}
use Rattle.td_nets.specs.Netlist.{Netlist}
use Rattle.td_gates.specs.declared.primitives.Level.{Level}
use Rattle.td_circuit.specs.Settings.{Setting}
use Rattle.td_domain.specs.declared.cubes.Trit.{Trit}
use Rattle.td_domain.specs.Cubes.{weave}
use Rattle.td_domain.specs.Admits.{Admitted}
use Rattle.td_refutation.specs.Asking.{Asking}
use Rattle.td_source.specs.Reads.{HasCircuit}
use Rattle.td_source.specs.Faults.{IsSourceFault}
use Rattle.td_inputs.specs.declared.labels.Label.{Label as CodeLabel}
use Rattle.td_inputs.specs.declared.sayings.WordFault.{WordFault}
use Rattle.td_inputs.specs.Labels.{Label, label_in, label_of}
use Rattle.td_inputs.specs.Scans.{Taken, taken_in}
use Rattle.td_inputs.specs.Readings.{fault_in}
use Rattle.td_inputs.specs.Placings.{Placed, given_in, ArePlaced, IsUnread, IsWrong}
use Rattle.td_request.specs.declared.question.Inputs.{Inputs}
use Rattle.td_request.specs.declared.question.Question.{Question}
use Rattle.td_question.specs.declared.fault.QuestionFault.{QuestionFault}
use Rattle.td_question.specs.declared.fault.QuestionFault.TheVariants as fault
use Rattle.td_question.specs.declared.keeping.KeepFault.{KeepFault}
use Rattle.td_question.specs.declared.keeping.KeepFault.TheVariants as keep_fault
use Rattle.td_question.specs.KeepLines.{Quote, file_quotes, word_quote}
use Rattle.td_question.specs.Keeping.{keep_texts, AreConditions, IsFirstFault}
use Rattle.td_question.specs.declared.vector.VectorWord.{VectorWord}
use Rattle.td_question.specs.declared.vector.VectorWord.TheVariants.{From, To, First, Second, Hold, At}
use Rattle.td_question.specs.Vectors.{level_character, SpellsVector, SpellsLevels, AreTrits, IsMask, AreMomentsOf, VectorWords, IsFirstBad, GivesTrits, GivesMask, GivesMoments}

-- at how many inputs bits may differ: at all of them where no number is given
abbrev pub most_flips : ℕ → Option ℕ → ℕ
most_flips inputs None = inputs
most_flips inputs (Some flips) = min flips inputs

-- for that many inputs, the words by place admit the pairs of the cube of the two patterns that
-- keep the held inputs and flip few enough
pub record Admits (inputs : ℕ) (words : Placed) (flips : Option ℕ) (admit : Admitted) : Type 0 where
  pub firsts : List Trit
  pub seconds : List Trit
  pub first_is : AreTrits inputs words.first firsts
  pub second_is : AreTrits inputs words.second seconds
  pub pins : admit.pins ≡ weave firsts seconds
  pub held : IsMask inputs words.hold admit.held
  pub flips_are : admit.flips ≡ most_flips inputs flips

-- the words by place admit these pairs of this netlist, whose inputs have the moments of the words
pub record AreAdmitted (netlist : Netlist) (words : Placed) (flips : Option ℕ) (setting : Setting) (admit : Admitted) : Type 0 where
  pub is : setting.netlist ≡ netlist
  pub moments : AreMomentsOf (length netlist.inputs) words.at setting.moments
  pub admits : Admits (length netlist.inputs) words flips admit

-- the names by which a netlist's inputs are called
abbrev pub input_labels : Netlist → List Label
input_labels netlist = map label_of netlist.inputs

abbrev pub taken_of : Inputs → List Taken
taken_of inputs = map taken_in inputs.named.now

-- the words by place that say of this netlist's inputs what all words say together
abbrev pub SayTogether : Netlist → Inputs → Placed → Type 0
SayTogether netlist inputs words = ArePlaced (input_labels netlist) (taken_of inputs) (given_in inputs.given) words

-- What the words ask of a text: the netlist that is read of it, which has no loop, with a moment
-- for each input, and which pairs are admitted. Names are those of this netlist's inputs.
pub record IsAsked (text : List ℕ) (reading : Reading) (question : Question) (setting : Setting) (admit : Admitted) : Type 0 where
  pub circuit : HasCircuit text reading setting.netlist
  pub words : Placed
  pub together : SayTogether setting.netlist question.inputs words
  pub moments : AreMomentsOf (length setting.netlist.inputs) words.at setting.moments
  pub admits : Admits (length setting.netlist.inputs) words question.flips admit

-- what is said of conditions: the words in order, and then the lines of the file
abbrev pub keep_quotes : Question → List Quote
keep_quotes question = map word_quote (keep_texts (taken_of question.inputs)) ++ file_quotes question.keep_text

-- What the words ask of a text, with the conditions that they and the lines of their file say on nets
-- of its netlist.
pub record IsAskedKeeping (text : List ℕ) (reading : Reading) (question : Question) (setting : Setting) (asking : Asking) : Type 0 where
  pub asked : IsAsked text reading question setting asking.admit
  pub keep : AreConditions setting.netlist (keep_quotes question) asking.keep

-- ---- why there is no question

abbrev pub pair_words : Placed → VectorWords
pair_words words = (First, GivesTrits words.first) ∷ (Second, GivesTrits words.second) ∷ (Hold, GivesMask words.hold) ∷ []

abbrev pub placed_words : Placed → VectorWords
placed_words words = pair_words words ++ (At, GivesMoments words.at) ∷ []

-- the words give nothing for that many inputs, and this is the first that doesn't
abbrev pub IsWordFault : ℕ → VectorWords → QuestionFault → Type 0
IsWordFault inputs words fault.OutOfMemory = Unit {0}
IsWordFault inputs words (fault.BadVector word) = IsFirstBad inputs words word
IsWordFault inputs words other = ⊥

-- The netlist that is read of the text has no loop, and this is the first of the command's words
-- that gives nothing for its inputs; or one by place into which words by name were to be merged
-- gives nothing.
pub record HasBadWord (text : List ℕ) (reading : Reading) (inputs : Inputs) (words_by : Placed → VectorWords) (word : VectorWord) : Type 0 where
  pub netlist : Netlist
  pub circuit : HasCircuit text reading netlist
  pub bad : ((words : Placed) × SayTogether netlist inputs words × IsFirstBad (length netlist.inputs) (words_by words) word)
      ⊎ IsUnread (input_labels netlist) (taken_of inputs) (given_in inputs.given)

-- the netlist that is read of the text has no loop, and this is wrong with a word by name, for its
-- inputs, which are called so
pub record HasBadName (text : List ℕ) (reading : Reading) (inputs : Inputs) (fault : WordFault) (labels : List CodeLabel) : Type 0 where
  pub netlist : Netlist
  pub circuit : HasCircuit text reading netlist
  pub called : map label_in labels ≡ input_labels netlist
  pub wrong : IsWrong (input_labels netlist) (taken_of inputs) (given_in inputs.given) (fault_in fault)

-- why a text and words about inputs give nothing, where the command reads these words
abbrev pub IsFaultOf : List ℕ → Reading → Inputs → (Placed → VectorWords) → QuestionFault → Type 0
IsFaultOf text reading inputs words_by fault.OutOfMemory = Unit {0}
IsFaultOf text reading inputs words_by (fault.Source source) = IsSourceFault text reading source
IsFaultOf text reading inputs words_by (fault.BadName wrong labels) = HasBadName text reading inputs wrong labels.items
IsFaultOf text reading inputs words_by (fault.BadVector word) = HasBadWord text reading inputs words_by word
IsFaultOf text reading inputs words_by (fault.BadKeep word) = ⊥
IsFaultOf text reading inputs words_by (fault.NoNet name) = ⊥
IsFaultOf text reading inputs words_by fault.LongKeepFile = ⊥

-- a file of conditions has more bytes than it may have
abbrev pub is_too_long : Option (Bor (List ℕ)) → Bool
is_too_long None = false
is_too_long (Some text) = nat_lt 67108864 (length text.now)

-- this is wrong with the file of conditions, or with the first word or line of a condition that says
-- none of the netlist
abbrev pub IsFaultOfQuestion : Netlist → Question → KeepFault → Type 0
IsFaultOfQuestion netlist question keep_fault.TooLong = is_too_long question.keep_text ≡ true
IsFaultOfQuestion netlist question wrong = IsFirstFault netlist (keep_quotes question) wrong

-- The text and the words about inputs ask something, and this is wrong with the conditions.
pub record HasBadCondition (text : List ℕ) (reading : Reading) (question : Question) (wrong : KeepFault) : Type 0 where
  pub setting : Setting
  pub admit : Admitted
  pub asked : IsAsked text reading question setting admit
  pub wrong_is : IsFaultOfQuestion setting.netlist question wrong

-- Why there is no question: the fault of the text and the words about inputs, or, where they have
-- none, that of the conditions.
abbrev pub IsQuestionFault : List ℕ → Reading → Question → QuestionFault → Type 0
IsQuestionFault text reading question (fault.BadKeep quote) = HasBadCondition text reading question (keep_fault.Bad quote)
IsQuestionFault text reading question (fault.NoNet name) = HasBadCondition text reading question (keep_fault.NoNet name)
IsQuestionFault text reading question fault.LongKeepFile = HasBadCondition text reading question keep_fault.TooLong
IsQuestionFault text reading question found = IsFaultOf text reading question.inputs placed_words found

-- this is wrong with what is said of conditions
abbrev pub IsKeepFault : Netlist → Question → QuestionFault → Type 0
IsKeepFault netlist question fault.OutOfMemory = Unit {0}
IsKeepFault netlist question (fault.BadKeep quote) = IsFaultOfQuestion netlist question (keep_fault.Bad quote)
IsKeepFault netlist question (fault.NoNet name) = IsFaultOfQuestion netlist question (keep_fault.NoNet name)
IsKeepFault netlist question fault.LongKeepFile = IsFaultOfQuestion netlist question keep_fault.TooLong
IsKeepFault netlist question other = ⊥

-- the netlist that is read of the text has no loop, and a word by place into which words by name were
-- to be merged gives nothing for its inputs
pub record HasUnread (text : List ℕ) (reading : Reading) (inputs : Inputs) : Type 0 where
  pub netlist : Netlist
  pub circuit : HasCircuit text reading netlist
  pub unread : IsUnread (input_labels netlist) (taken_of inputs) (given_in inputs.given)

-- a fault of the text, or of what is said by name
abbrev pub IsFaultOfAny : List ℕ → Reading → Inputs → QuestionFault → Type 0
IsFaultOfAny text reading inputs fault.OutOfMemory = Unit {0}
IsFaultOfAny text reading inputs (fault.Source source) = IsSourceFault text reading source
IsFaultOfAny text reading inputs (fault.BadName wrong labels) = HasBadName text reading inputs wrong labels.items
IsFaultOfAny text reading inputs (fault.BadVector word) = HasUnread text reading inputs
IsFaultOfAny text reading inputs (fault.BadKeep word) = ⊥
IsFaultOfAny text reading inputs (fault.NoNet name) = ⊥
IsFaultOfAny text reading inputs fault.LongKeepFile = ⊥

-- ---- pairs

-- the netlist that is read of the text, which has no loop, with a moment for each input, and two
-- vectors of its inputs, which these words spell
pub record IsPair (text : List ℕ) (reading : Reading) (inputs : Inputs) (from to : List ℕ) (setting : Setting) (first second : List Level) : Type 0 where
  pub circuit : HasCircuit text reading setting.netlist
  pub words : Placed
  pub together : SayTogether setting.netlist inputs words
  pub moments : AreMomentsOf (length setting.netlist.inputs) words.at setting.moments
  pub from_is : SpellsVector level_character (length setting.netlist.inputs) from first
  pub to_is : SpellsVector level_character (length setting.netlist.inputs) to second

abbrev pub vector_words : List ℕ → List ℕ → Placed → VectorWords
vector_words from to words = (From, SpellsLevels from) ∷ (To, SpellsLevels to) ∷ (At, GivesMoments words.at) ∷ []

-- ---- what words by place say of a netlist

-- these vectors of this netlist's inputs, which have the moments of the words
pub record AreSpelled (netlist : Netlist) (words : Placed) (from to : List ℕ) (setting : Setting) (first second : List Level) : Type 0 where
  pub is : setting.netlist ≡ netlist
  pub moments : AreMomentsOf (length netlist.inputs) words.at setting.moments
  pub from_is : SpellsVector level_character (length netlist.inputs) from first
  pub to_is : SpellsVector level_character (length netlist.inputs) to second
