-- What words of conditions say, one after the other.
use Rattle.std.proofs.Common.{◌≡◌, ◌∙◌, ℕ, zero, suc, ◌+◌, ◌<◌, ◌≤◌, Bool, true, false, List, [], ◌∷◌, ◌++◌, length, map, take, get_or, arith, refl, sym, ap, subst, inl, inr}
use Rattle.std.specs.Prelude.{slice_get, Option, Some, None, if◌then◌else◌}
use Rattle.std.specs.List.{Contains}
use Rattle.std.proofs.lemmas.List.{map-append, take_more}
use Rattle.td_gates.proofs.Places.{none-some, some-same, slice_get-Contains, Contains-slice_get}
use Rattle.td_nets.specs.Netlist.{Name, Netlist, Low, High, Named}
use Rattle.td_inputs.specs.declared.scanning.Taken.{Taken as CodeTaken}
use Rattle.td_inputs.specs.declared.topic.Topic.TheVariants.{Keep}
use Rattle.td_inputs.specs.Readings.{same_topic}
use Rattle.td_inputs.specs.Scans.{Taken, taken_in}
use Rattle.td_spans.specs.declared.condition.Form.{Form}
use Rattle.td_refutation.specs.Asking.{net_at}
use Rattle.td_refutation.specs.declared.conditions.NamedCondition.{NamedCondition}
use Rattle.td_question.specs.declared.keeping.KeepFault.{KeepFault}
use Rattle.td_question.specs.declared.quote.Quote.{Quote as CodeQuote}
use Rattle.td_question.specs.KeepLines.{Quote, quote_in}
use Rattle.td_question.specs.Keeping.{keep_texts, Spells, HasNoNet, SaysCondition, AreConditions, IsFaultOfQuote, IsFirstFault, count_nets}
use Rattle.td_question.specs.Found.{AreNames, AreFound, IsFound, number_in, AreSaid, AreInOrder}
use Rattle.td_question.proofs.NetNames.{net_low}

-- ---- words of conditions

texts_append : (before after : List Taken) → keep_texts (before ++ after) ≡ keep_texts before ++ keep_texts after
texts_append [] after = refl
texts_append (taken ∷ before) after = append_if (same_topic Keep taken.topic) (texts_append before after)
  where
    append_if : (b : Bool) → keep_texts (before ++ after) ≡ keep_texts before ++ keep_texts after
        → (if b then taken.text ∷ keep_texts (before ++ after) else keep_texts (before ++ after))
        ≡ (if b then taken.text ∷ keep_texts before else keep_texts before) ++ keep_texts after
    append_if true same = ap (λ (texts : List (List ℕ)). taken.text ∷ texts) same
    append_if false same = same

-- the words of conditions, with those of one option more
pub texts_more : (named : List CodeTaken) (i : ℕ) (taken : CodeTaken) (old new : List (List ℕ)) → i < length named
    → new ≡ old ++ keep_texts (taken_in (get_or named i taken) ∷ []) → old ≡ keep_texts (map taken_in (take i named))
    → new ≡ keep_texts (map taken_in (take (i + 1) named))
texts_more named i taken old new low added are =
    added ∙ ap (λ (texts : List (List ℕ)). texts ++ keep_texts (taken_in (get_or named i taken) ∷ [])) are
    ∙ sym (texts_append (map taken_in (take i named)) (taken_in (get_or named i taken) ∷ []))
    ∙ sym (ap (λ (takens : List CodeTaken). keep_texts (map taken_in takens)) (take_more named i taken low)
    ∙ ap keep_texts (map-append taken_in (take i named) (get_or named i taken ∷ [])))

-- the words up to a place, with the one at it
pub now_more : (words : List CodeQuote) (i : ℕ) (word : CodeQuote) → i < length words
    → map quote_in (take (i + 1) words) ≡ map quote_in (take i words) ++ quote_in (get_or words i word) ∷ []
now_more words i word low =
    ap (map quote_in) (take_more words i word low) ∙ map-append quote_in (take i words) (get_or words i word ∷ [])

-- the words up to a place, the one at it, and those behind it
pub now_split : (words : List CodeQuote) (i : ℕ) (word : CodeQuote) → i < length words
    → (more : List Quote) × (map quote_in words ≡ map quote_in (take i words) ++ quote_in (get_or words i word) ∷ more)
now_split [] i word low = absurd (omega (arith, low))
now_split (w ∷ words) zero word low = (map quote_in words, refl)
now_split (w ∷ words) (suc i) word low =
    let rest = now_split words i word (omega (arith, low)) in
    (rest.0, ap (λ (ws : List Quote). quote_in w ∷ ws) rest.1)

-- the word at a place is among the words
pub now_has : (words : List CodeQuote) (i : ℕ) (word : CodeQuote) → i < length words
    → Contains (map quote_in words) (quote_in (get_or words i word))
now_has [] i word low = absurd (omega (arith, low))
now_has (w ∷ words) zero word low = slice_get-Contains (map quote_in (w ∷ words)) 0 (quote_in w) refl
now_has (w ∷ words) (suc i) word low =
    let at = Contains-slice_get (map quote_in words) (quote_in (get_or words i word)) (now_has words i word (omega (arith, low))) in
    slice_get-Contains (map quote_in (w ∷ words)) (suc at.0) (quote_in (get_or words i word)) at.1

-- names of all words are those of each
pub names_one : (words : List Quote) (names : List (List ℕ)) (word : Quote) → AreNames words names → Contains words word → AreNames (word ∷ []) names
names_one words names word are has other name form within parts =
    are other name form (subst (Contains words) (one_of (Contains-slice_get (word ∷ []) other within)) has) parts
  where
    one_of : {other : Quote} → ((i : ℕ) × (slice_get (word ∷ []) i ≡ Some other)) → word ≡ other
    one_of {other} (zero, at) = some-same word other at
    one_of {other} (suc i, at) = absurd (none-some other at)

-- ---- the condition of a word

module _ (netlist : Netlist) (names : List (List ℕ)) (numbers : List (Option ℕ)) (word : Quote) (name : List ℕ) (form : Form)
    (are : AreNames (word ∷ []) names) (parts : Spells word name form) (found : AreFound netlist names numbers) where
  has : Contains names name
  has = are word name form (slice_get-Contains (word ∷ []) 0 word refl) parts

  pub says_it : (net : ℕ) → number_in names numbers name ≡ Some net → SaysCondition netlist word (record { net = net; form = form })
  says_it net is = record { name = name; parts = parts; net = subst (IsFound netlist name) is (found name has) }

  pub no_net : number_in names numbers name ≡ None → HasNoNet netlist name
  no_net none = subst (IsFound netlist name) none (found name has)

-- ---- conditions that are said

module _ (netlist : Netlist) where
  pub said_more : (words : List Quote) (said : List NamedCondition) (word : Quote) (condition : NamedCondition) → AreSaid netlist words said
      → SaysCondition netlist word condition → AreSaid netlist (words ++ word ∷ []) (said ++ condition ∷ [])
  said_more [] [] word condition are says = (says, tt)
  said_more [] (c ∷ said) word condition are says = absurd are
  said_more (w ∷ words) [] word condition are says = absurd are
  said_more (w ∷ words) (c ∷ said) word condition are says = (are.0, said_more words said word condition are.1 says)

  pub first_fault : (words : List Quote) (said : List NamedCondition) (word : Quote) (more : List Quote) (wrong : KeepFault) → AreSaid netlist words said
      → IsFaultOfQuote netlist word wrong → IsFirstFault netlist (words ++ word ∷ more) wrong
  first_fault [] [] word more wrong are bad = inl bad
  first_fault [] (c ∷ said) word more wrong are bad = absurd are
  first_fault (w ∷ words) [] word more wrong are bad = absurd are
  first_fault (w ∷ words) (c ∷ said) word more wrong are bad = inr ((c, are.0), first_fault words said word more wrong are.1 bad)

  said_by : (words : List Quote) (said : List NamedCondition) (i : ℕ) (condition : NamedCondition) → AreSaid netlist words said
      → slice_get said i ≡ Some condition → (word : Quote) × (slice_get words i ≡ Some word) × SaysCondition netlist word condition
  said_by words [] i condition are at = absurd (none-some condition at)
  said_by [] (c ∷ said) i condition are at = absurd are
  said_by (w ∷ words) (c ∷ said) zero condition are at = (w, refl, subst (SaysCondition netlist w) (some-same c condition at) are.0)
  said_by (w ∷ words) (c ∷ said) (suc i) condition are at = said_by words said i condition are.1 at

  says_of : (words : List Quote) (said : List NamedCondition) (i : ℕ) (word : Quote) → AreSaid netlist words said
      → slice_get words i ≡ Some word → (condition : NamedCondition) × (slice_get said i ≡ Some condition) × SaysCondition netlist word condition
  says_of [] said i word are at = absurd (none-some word at)
  says_of (w ∷ words) [] i word are at = absurd are
  says_of (w ∷ words) (c ∷ said) zero word are at = (c, refl, subst (λ (t : Quote). SaysCondition netlist t c) (some-same w word at) are.0)
  says_of (w ∷ words) (c ∷ said) (suc i) word are at = says_of words said i word are.1 at

  high : (number : ℕ) {name : Name} → net_at netlist number ≡ Some (Named name) → 2 ≤ number
  high zero {name} at = absurd (let wrong : Low ≡ Named name = some-same Low (Named name) at in cc)
  high (suc zero) {name} at = absurd (let wrong : High ≡ Named name = some-same High (Named name) at in cc)
  high (suc (suc i)) at = omega arith

  -- a condition that is said is on an input or a gate's output
  on_net : (word : Quote) (condition : NamedCondition) → SaysCondition netlist word condition → (2 ≤ condition.net) × (condition.net < count_nets netlist)
  on_net word condition says = (high condition.net says.net.stands, net_low netlist condition.net (Named says.net.net) says.net.stands)

  -- the conditions that words say, in order
  pub are_conditions : (words : List Quote) (said keep : List NamedCondition) → AreSaid netlist words said → AreInOrder said keep → AreConditions netlist words keep
  are_conditions words said keep are ordered = record {
    rising = ordered.rising (count_nets netlist) (λ c has.
        let at = Contains-slice_get said c has in
        let by = said_by words said at.0 c are at.1 in
        on_net by.0 c by.2);
    said = λ c has.
        let at = Contains-slice_get said c ((ordered.same c).0 has) in
        let by = said_by words said at.0 c are at.1 in
        (by.0, slice_get-Contains words at.0 by.0 by.1, by.2);
    each = λ word has.
        let at = Contains-slice_get words word has in
        let says = says_of words said at.0 word are at.1 in
        (says.0, (ordered.same says.0).1 (slice_get-Contains said at.0 says.0 says.1), says.2);
  }

  -- ---- the next word

  pub said_next : (words : List CodeQuote) (said new : List NamedCondition) (i : ℕ) (word : CodeQuote) (condition : NamedCondition) → i < length words
      → AreSaid netlist (map quote_in (take i words)) said → SaysCondition netlist (quote_in (get_or words i word)) condition
      → new ≡ said ++ condition ∷ [] → AreSaid netlist (map quote_in (take (i + 1) words)) new
  said_next words said new i word condition low are says added =
      subst (λ (ws : List Quote). AreSaid netlist ws new) (sym (now_more words i word low))
      (subst (AreSaid netlist (map quote_in (take i words) ++ quote_in (get_or words i word) ∷ [])) (sym added)
      (said_more (map quote_in (take i words)) said (quote_in (get_or words i word)) condition are says))

  pub fault_next : (words : List CodeQuote) (said : List NamedCondition) (i : ℕ) (word : CodeQuote) (wrong : KeepFault) → i < length words
      → AreSaid netlist (map quote_in (take i words)) said → IsFaultOfQuote netlist (quote_in (get_or words i word)) wrong
      → IsFirstFault netlist (map quote_in words) wrong
  fault_next words said i word wrong low are bad =
      let parts = now_split words i word low in
      subst (λ (ws : List Quote). IsFirstFault netlist ws wrong) (sym parts.1)
      (first_fault (map quote_in (take i words)) said (quote_in (get_or words i word)) parts.0 wrong are bad)

pub names_next : (words : List CodeQuote) (names new : List (List ℕ)) (i : ℕ) (word : CodeQuote) → i < length words
    → ((before : List Quote) → AreNames before names → AreNames (before ++ quote_in (get_or words i word) ∷ []) new)
    → AreNames (map quote_in (take i words)) names → AreNames (map quote_in (take (i + 1) words)) new
names_next words names new i word low adds are =
    subst (λ (ws : List Quote). AreNames ws new) (sym (now_more words i word low)) (adds (map quote_in (take i words)) are)

all_taken : (words : List CodeQuote) (i : ℕ) → length words ≤ i → take i words ≡ words
all_taken [] zero long = refl
all_taken [] (suc i) long = refl
all_taken (w ∷ words) zero long = absurd (omega (arith, long))
all_taken (w ∷ words) (suc i) long = ap (λ (ws : List CodeQuote). w ∷ ws) (all_taken words i (omega (arith, long)))

-- the names of the words up to a place are those of all, where there are no others
pub names_all : (words : List CodeQuote) (names : List (List ℕ)) (i : ℕ) → length words ≤ i → AreNames (map quote_in (take i words)) names
    → AreNames (map quote_in words) names
names_all words names i long are =
    subst (λ (ws : List CodeQuote). AreNames (map quote_in ws) names) (all_taken words i long) are
