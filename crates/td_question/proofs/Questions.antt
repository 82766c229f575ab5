-- What the words of a search ask of a text.
use Rattle.std.proofs.Common.{◌≡◌, ◌∙◌, ℕ, ◌≤◌, ◌+◌, ◌*◌, ◌<◌, suc, List, [], ◌∷◌, ◌++◌, length, map, take, get_or, arith, refl, sym, ap, subst, inl, inr}
use Rattle.std.specs.Prelude.{Option, None, Some, Result, Ok, Err, IfOk, IfErr, slice_get}
use Rattle.std.proofs.lemmas.List.{map-append, take_more}
use Rattle.td_reading.specs.declared.reading.Reading.{Reading}
use Rattle.td_nets.specs.Netlist.{Name, Netlist, Named}
use Rattle.td_gates.proofs.Places.{some-same, slice_get-some, slice_get-within, slice_get-get}
use Rattle.td_circuit.specs.Settings.{Setting}
use Rattle.td_circuit.specs.Numbering.{Numbered, nets, setting, with_moments}
use Rattle.td_circuit.proofs.Looping.{input_number}
use Rattle.td_circuit.proofs.Sorting.{named_same}
use Rattle.td_domain.specs.Admits.{Admitted}
use Rattle.td_source.specs.Reads.{HasCircuit}
use Rattle.td_inputs.specs.declared.labels.Label.{Label as CodeLabel}
use Rattle.td_inputs.specs.Labels.{Label, label_in, label_of}
use Rattle.td_inputs.specs.Placings.{Placed}
use Rattle.td_request.specs.declared.question.Inputs.{Inputs}
use Rattle.td_request.specs.declared.question.Question.{Question}
use Rattle.td_gates.specs.declared.primitives.Level.{Level}
use Rattle.td_question.specs.declared.vector.VectorWord.{VectorWord}
use Rattle.td_question.specs.declared.vector.VectorWord.TheVariants.{At}
use Rattle.td_question.specs.Vectors.{level_character, SpellsVector, VectorWords, IsFirstBad, AreMomentsOf, GivesMoments}
use Rattle.td_question.specs.Asking.{most_flips, Admits, AreAdmitted, SayTogether, IsAsked, IsPair, AreSpelled, IsWordFault, IsFaultOf, IsFaultOfAny, IsFaultOfQuestion, IsKeepFault, IsQuestionFault, keep_quotes, pair_words, placed_words}
use Rattle.td_question.specs.declared.keeping.KeepFault.{KeepFault}
use Rattle.td_question.specs.declared.keeping.KeepFault.TheVariants as keep_fault_of
use Rattle.td_question.specs.Keeping.{IsFirstFault}
use Rattle.td_question.specs.KeepLines.{Quote}
use Rattle.td_question.specs.declared.fault.QuestionFault.{QuestionFault}
use Rattle.td_question.specs.declared.fault.QuestionFault.TheVariants as fault
use Rattle.td_question.proofs.Vectors.{given-length}

-- the first bad word is still the first with more words after these
pub first_bad_more : (count : ℕ) (words more : VectorWords) (word : VectorWord) → IsFirstBad count words word → IsFirstBad count (words ++ more) word
first_bad_more count [] more word bad = absurd bad
first_bad_more count (given ∷ others) more word (inl bad) = inl bad
first_bad_more count (given ∷ others) more word (inr (gives, bad)) = inr (gives, first_bad_more count others more word bad)

module _ (count inputs : ℕ) (words : Placed) (flips : Option ℕ) (counts : count ≡ inputs) where
  -- a word that says which pairs are admitted gives nothing
  pub bad_pair_word : (word : VectorWord) → IsFirstBad count (pair_words words) word → IsFirstBad inputs (placed_words words) word
  bad_pair_word word bad =
      subst (λ (n : ℕ). IsFirstBad n (placed_words words) word) counts
      (first_bad_more count (pair_words words) ((At, GivesMoments words.at) ∷ []) word bad)

  -- the word of the moments gives nothing
  pub bad_moments : (admit : Admitted) → Admits count words flips admit → ((moments : List ℕ) → ¬ AreMomentsOf count words.at moments)
      → IsFirstBad inputs (placed_words words) At
  bad_moments admit admits none =
      subst (λ (n : ℕ). IsFirstBad n (placed_words words) At) counts
      (inr ((admits.firsts, admits.first_is), inr ((admits.seconds, admits.second_is), inr ((admit.held, admits.held), inl (refl, λ given. none given.0 given.1)))))

pub are_admitted : (circuit timed : Numbered) (count : ℕ) (words : Placed) (flips : Option ℕ) (admit : Admitted) (moments : List ℕ)
    → count ≡ length circuit.netlist.inputs → Admits count words flips admit → AreMomentsOf count words.at moments
    → timed ≡ with_moments circuit moments → AreAdmitted circuit.netlist words flips (setting timed) admit
are_admitted circuit timed count words flips admit moments counts admits are timed_is =
    subst (λ timed. AreAdmitted circuit.netlist words flips (setting timed) admit) (sym timed_is) (record {
      is = refl;
      moments = subst (λ count. AreMomentsOf count words.at moments) counts are;
      admits = subst (λ count. Admits count words flips admit) counts admits;
    })

-- the same words say so of the same netlist
pub say_so : (inputs : Inputs) (one other : Netlist) (these those : Placed) → one ≡ other → these ≡ those → SayTogether other inputs those
    → SayTogether one inputs these
say_so inputs one other these those same are together =
    subst (λ (n : Netlist). SayTogether n inputs these) (sym same) (subst (λ (words : Placed). SayTogether other inputs words) (sym are) together)

module _ (text : List ℕ) (reading : Reading) (question : Question) where
  pub is_asked : (netlist : Netlist) (words : Placed) (setting : Setting) (admit : Admitted) → HasCircuit text reading netlist
      → SayTogether netlist question.inputs words → AreAdmitted netlist words question.flips setting admit → IsAsked text reading question setting admit
  is_asked netlist words setting admit circuit together are = record {
    circuit = subst (λ (n : Netlist). HasCircuit text reading n) (sym are.is) circuit;
    words = words;
    together = subst (λ (n : Netlist). SayTogether n question.inputs words) (sym are.is) together;
    moments = subst (λ (n : Netlist). AreMomentsOf (length n.inputs) words.at setting.moments) (sym are.is) are.moments;
    admits = subst (λ (n : Netlist). Admits (length n.inputs) words question.flips admit) (sym are.is) are.admits;
  }

  -- the same circuit and pairs are asked about
  pub asked_same : (this other : Numbered) (one two : Admitted) → this ≡ other → one ≡ two → IsAsked text reading question (setting other) two
      → IsAsked text reading question (setting this) one
  asked_same this other one two same are is =
      subst (λ (circuit : Numbered). IsAsked text reading question (setting circuit) one) (sym same)
      (subst (λ (admit : Admitted). IsAsked text reading question (setting other) admit) (sym are) is)

  -- a fault of the text or the words about inputs
  pub pair_fault : (found : QuestionFault) → IsFaultOf text reading question.inputs placed_words found → IsQuestionFault text reading question found
  pair_fault fault.OutOfMemory is = tt
  pair_fault (fault.Source source) is = is
  pair_fault (fault.BadName wrong names) is = is
  pair_fault (fault.BadVector word) is = is
  pair_fault (fault.BadKeep word) is = absurd is
  pair_fault (fault.NoNet name) is = absurd is
  pair_fault fault.LongKeepFile is = absurd is

  -- a fault of the conditions, where the words about inputs ask something
  pub keep_fault : (setting : Setting) (admit : Admitted) → IsAsked text reading question setting admit → (found : QuestionFault)
      → IsKeepFault setting.netlist question found → IsQuestionFault text reading question found
  keep_fault setting admit asked fault.OutOfMemory is = tt
  keep_fault setting admit asked (fault.Source source) is = absurd is
  keep_fault setting admit asked (fault.BadName wrong names) is = absurd is
  keep_fault setting admit asked (fault.BadVector word) is = absurd is
  keep_fault setting admit asked (fault.BadKeep word) is = record { setting = setting; admit = admit; asked = asked; wrong_is = is }
  keep_fault setting admit asked (fault.NoNet name) is = record { setting = setting; admit = admit; asked = asked; wrong_is = is }
  keep_fault setting admit asked fault.LongKeepFile is = record { setting = setting; admit = admit; asked = asked; wrong_is = is }

  -- the pairs are of the circuit's inputs
  pub asked_held : (setting : Setting) (admit : Admitted) → IsAsked text reading question setting admit → length admit.held ≡ length setting.netlist.inputs
  asked_held setting admit is = given-length _ _ _ _ _ is.admits.held

  within_inputs : (inputs : ℕ) (flips : Option ℕ) → most_flips inputs flips ≤ inputs
  within_inputs inputs None = omega arith
  within_inputs inputs (Some flips) = omega arith

  -- no more flips are admitted than there are inputs
  pub asked_flips : (setting : Setting) (admit : Admitted) → IsAsked text reading question setting admit → admit.flips ≤ length admit.held
  asked_flips setting admit is = omega (arith, asked_held setting admit is, is.admits.flips_are, within_inputs (length setting.netlist.inputs) question.flips)

-- a fault of the text or of a name, for whatever words a command reads
pub any_fault : (text : List ℕ) (reading : Reading) (inputs : Inputs) (words_by : Placed → VectorWords) (found : QuestionFault)
    → IsFaultOfAny text reading inputs found → IsFaultOf text reading inputs words_by found
any_fault text reading inputs words_by fault.OutOfMemory is = tt
any_fault text reading inputs words_by (fault.Source source) is = is
any_fault text reading inputs words_by (fault.BadName wrong names) is = is
any_fault text reading inputs words_by (fault.BadVector word) is = record { netlist = is.netlist; circuit = is.circuit; bad = inr is.unread }
any_fault text reading inputs words_by (fault.BadKeep word) is = absurd is
any_fault text reading inputs words_by (fault.NoNet name) is = absurd is
any_fault text reading inputs words_by fault.LongKeepFile is = absurd is

module _ (text : List ℕ) (reading : Reading) (inputs : Inputs) (netlist : Netlist) (words : Placed) (circuit : HasCircuit text reading netlist)
    (together : SayTogether netlist inputs words) where
  pub is_pair : (from to : List ℕ) (setting : Setting) (first second : List Level) → AreSpelled netlist words from to setting first second
      → IsPair text reading inputs from to setting first second
  is_pair from to setting first second are = record {
    circuit = subst (λ (n : Netlist). HasCircuit text reading n) (sym are.is) circuit;
    words = words;
    together = subst (λ (n : Netlist). SayTogether n inputs words) (sym are.is) together;
    moments = subst (λ (n : Netlist). AreMomentsOf (length n.inputs) words.at setting.moments) (sym are.is) are.moments;
    from_is = subst (λ (n : Netlist). SpellsVector level_character (length n.inputs) from first) (sym are.is) are.from_is;
    to_is = subst (λ (n : Netlist). SpellsVector level_character (length n.inputs) to second) (sym are.is) are.to_is;
  }

  -- words by place, into which those by name were merged, give nothing
  pub word_fault : (words_by : Placed → VectorWords) (found : QuestionFault) → IsWordFault (length netlist.inputs) (words_by words) found
      → IsFaultOf text reading inputs words_by found
  word_fault words_by fault.OutOfMemory is = tt
  word_fault words_by (fault.Source source) is = absurd is
  word_fault words_by (fault.BadName wrong names) is = absurd is
  word_fault words_by (fault.BadVector word) is = record { netlist = netlist; circuit = circuit; bad = inl (words, together, is) }
  word_fault words_by (fault.BadKeep word) is = absurd is
  word_fault words_by (fault.NoNet name) is = absurd is
  word_fault words_by fault.LongKeepFile is = absurd is

-- the first of the quotes that says no condition is what is wrong with a question
never_long : (netlist : Netlist) (quotes : List Quote) → IsFirstFault netlist quotes keep_fault_of.TooLong → ⊥
never_long netlist [] is = is
never_long netlist (quote ∷ quotes) (inl here) = here
never_long netlist (quote ∷ quotes) (inr later) = never_long netlist quotes later.1

pub first_wrong : (netlist : Netlist) (question : Question) (wrong : KeepFault) → IsFirstFault netlist (keep_quotes question) wrong
    → IsFaultOfQuestion netlist question wrong
first_wrong netlist question (keep_fault_of.Bad quote) is = is
first_wrong netlist question (keep_fault_of.NoNet name) is = is
first_wrong netlist question keep_fault_of.TooLong is = absurd (never_long netlist (keep_quotes question) is)

pub wrong_first : {T E : Type 0} (netlist : Netlist) (question : Question) (result : Result (Result T KeepFault) E)
    → IfOk result (λ reported. IfErr reported (IsFirstFault netlist (keep_quotes question)))
    → IfOk result (λ reported. IfErr reported (IsFaultOfQuestion netlist question))
wrong_first netlist question (Ok (Ok said)) is = tt
wrong_first netlist question (Ok (Err wrong)) is = first_wrong netlist question wrong is
wrong_first netlist question (Err fault) is = tt

-- the first bad word, for as many inputs as a netlist has
pub bad_at : {count inputs : ℕ} (words : VectorWords) (word : VectorWord) → count ≡ inputs → IsFirstBad count words word → IsFirstBad inputs words word
bad_at words word counts bad = subst (λ (n : ℕ). IsFirstBad n words word) counts bad

pub are_spelled : (circuit timed : Numbered) (count : ℕ) (words : Placed) (from to : List ℕ) (first second : List Level) (moments : List ℕ)
    → count ≡ length circuit.netlist.inputs → SpellsVector level_character count from first → SpellsVector level_character count to second
    → AreMomentsOf count words.at moments → timed ≡ with_moments circuit moments → AreSpelled circuit.netlist words from to (setting timed) first second
are_spelled circuit timed count words from to first second moments counts from_is to_is are timed_is =
    subst (λ timed. AreSpelled circuit.netlist words from to (setting timed) first second) (sym timed_is) (record {
      is = refl;
      moments = subst (λ count. AreMomentsOf count words.at moments) counts are;
      from_is = subst (λ count. SpellsVector level_character count from first) counts from_is;
      to_is = subst (λ count. SpellsVector level_character count to second) counts to_is;
    })

-- ---- names of inputs

-- an input of a circuit: its name, and its number
pub record InputAt (circuit : Numbered) (i : ℕ) : Type 0 where
  pub name : Name
  pub at : slice_get circuit.netlist.inputs i ≡ Some name
  pub net : slice_get (nets circuit) (i + 2) ≡ Some (Named name)
  pub within : i + 2 < length (nets circuit)

pub input_at : (circuit : Numbered) (i : ℕ) → i < length circuit.netlist.inputs → InputAt circuit i
input_at circuit i less =
    let name = slice_get-within circuit.netlist.inputs i less in
    let number : i + 2 ≡ suc (suc i) = omega arith in
    let net = ap (slice_get (nets circuit)) number ∙ input_number circuit i name.0 name.1 in
    record { name = name.0; at = name.1; net = net; within = slice_get-some (nets circuit) (i + 2) (Named name.0) net }

-- one more name of an input
pub label_more : (circuit : Numbered) (i : ℕ) (name : Name) (labels new : List CodeLabel) (label : CodeLabel) → i < length circuit.netlist.inputs
    → slice_get (nets circuit) (i + 2) ≡ Some (Named name) → label_in label ≡ label_of name → new ≡ labels ++ label ∷ []
    → map label_in labels ≡ map label_of (take i circuit.netlist.inputs) → map label_in new ≡ map label_of (take (i + 1) circuit.netlist.inputs)
label_more circuit i name labels new label less at named added so_far =
    let input = input_at circuit i less in
    let inputs = circuit.netlist.inputs in
    let there : slice_get inputs i ≡ Some name =
    input.at ∙ ap (λ (n : Name). Some n) (named_same input.name name (some-same (Named input.name) (Named name) (sym input.net ∙ at))) in
    ap (map label_in) added ∙ map-append label_in labels (label ∷ [])
    ∙ ap (λ (l : Label). map label_in labels ++ l ∷ []) named
    ∙ ap (λ (ls : List Label). ls ++ label_of name ∷ []) so_far
    ∙ sym (ap (map label_of) (take_more inputs i name less) ∙ map-append label_of (take i inputs) (get_or inputs i name ∷ [])
    ∙ ap (λ n. map label_of (take i inputs) ++ label_of n ∷ []) (slice_get-get inputs i name name there))
