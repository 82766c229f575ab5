-- The parts of a word of a condition.
use Rattle.std.proofs.Common.{◌≡◌, ◌∙◌, ℕ, zero, suc, ◌<◌, true, false, true≢false, List, [], ◌∷◌, ◌++◌, length, take, drop, get_or, arith, refl, sym, ap, subst, inl, inr, length-append}
use Rattle.std.specs.Prelude.{Option, Some, None, IfNone}
use Rattle.std.specs.Char.{is_ascii_whitespace}
use Rattle.std.specs.List.{Contains}
use Rattle.std.proofs.lemmas.List.Elements.{Contains-push_cases}
use Rattle.td_gates.specs.declared.primitives.Level.{Level}
use Rattle.td_gates.specs.declared.primitives.Level.TheVariants.{Zero, One, X}
use Rattle.td_spans.specs.declared.condition.Form.{Form}
use Rattle.td_spans.specs.declared.condition.Form.TheVariants.{Levels, Equal}
use Rattle.td_certificate.specs.Text.{level_byte, form_text}
use Rattle.td_question.specs.KeepLines.{Quote, end_trimmed}
use Rattle.td_question.specs.Keeping.{keep_word, HasFields, HasParts, Spells, SpellsAt}
use Rattle.td_question.specs.Found.{AreLevels, AreNames, AsksForm}

-- the ends of two lists that are the same
pub ends_same : (xs us ys vs : List ℕ) → length ys ≡ length vs → xs ++ ys ≡ us ++ vs → (xs ≡ us) × (ys ≡ vs)
ends_same [] [] ys vs long same = (refl, same)
ends_same [] (u ∷ us) ys vs long same = absurd (let all : length ys ≡ length ((u ∷ us) ++ vs) = ap length same in omega (arith, all, long, length-append (u ∷ us) vs))
ends_same (x ∷ xs) [] ys vs long same = absurd (let all : length ((x ∷ xs) ++ ys) ≡ length vs = ap length same in omega (arith, all, long, length-append (x ∷ xs) ys))
ends_same (x ∷ xs) (u ∷ us) ys vs long same =
    let rest = ends_same xs us ys vs long (ap (λ (l : List ℕ). drop 1 l) same) in
    (ap (λ (l : List ℕ). x ∷ l) rest.0 ∙ ap (λ (a : ℕ). a ∷ us) (ap (λ (l : List ℕ). get_or l 0 0) same), rest.1)

-- no level has the character of an equal sign
pub byte_other : (level : Level) → 61 ≡ level_byte level → ⊥
byte_other Zero same = omega (arith, same)
byte_other One same = omega (arith, same)
byte_other X same = omega (arith, same)

two_first : (a b c d : ℕ) → a ∷ b ∷ [] ≡ c ∷ d ∷ [] → a ≡ c
two_first a b c d same = ap (λ (l : List ℕ). get_or l 0 0) same

two_second : (a b c d : ℕ) → a ∷ b ∷ [] ≡ c ∷ d ∷ [] → b ≡ d
two_second a b c d same = ap (λ (l : List ℕ). get_or l 1 0) same

-- the last two characters are those of what is asked
pub ends_in : (front : List ℕ) (f g : ℕ) (name : List ℕ) (form : Form) → front ++ f ∷ g ∷ [] ≡ keep_word name form
    → f ∷ g ∷ [] ≡ form_text form
ends_in front f g name (Levels a b) same =
    (ends_same front (name ++ 61 ∷ []) (f ∷ g ∷ []) (level_byte a ∷ level_byte b ∷ []) refl same).1
ends_in front f g name Equal same = (ends_same front name (f ∷ g ∷ []) (61 ∷ 61 ∷ []) refl same).1

-- a word whose last two characters ask for no levels and are no two equal signs has no parts
pub no_parts : (front : List ℕ) (f g : ℕ) → ((form : Form) → AreLevels f g form → ⊥) → ((f ≡ 61) × (g ≡ 61) → ⊥)
    → (name : List ℕ) (form : Form) → HasParts (front ++ f ∷ g ∷ []) name form → ⊥
no_parts front f g none other name (Levels a b) parts =
    let ends = ends_in front f g name (Levels a b) parts.spelled in
    none (Levels a b) (two_first f g (level_byte a) (level_byte b) ends, two_second f g (level_byte a) (level_byte b) ends, parts.asks)
no_parts front f g none other name Equal parts =
    let ends = ends_in front f g name Equal parts.spelled in
    other (two_first f g 61 61 ends, two_second f g 61 61 ends)

two_ends : (word : List ℕ) (i d e : ℕ) → length word ≡ suc (suc i) → word ≡ take i word ++ get_or word i d ∷ get_or word (suc i) e ∷ []
two_ends [] i d e long = absurd (omega (arith, long))
two_ends (x ∷ []) i d e long = absurd (omega (arith, long))
two_ends (x ∷ y ∷ []) zero d e long = refl
two_ends (x ∷ y ∷ z ∷ word) zero d e long = absurd (omega (arith, long))
two_ends (x ∷ y ∷ word) (suc i) d e long = ap (λ (w : List ℕ). x ∷ w) (two_ends (y ∷ word) i d e (omega (arith, long)))

pub no_parts_in : (word : List ℕ) (i j d e : ℕ) → length word ≡ suc (suc i) → j ≡ suc i
    → ((form : Form) → AreLevels (get_or word i d) (get_or word j e) form → ⊥) → ((get_or word i d ≡ 61) × (get_or word j e ≡ 61) → ⊥)
    → (name : List ℕ) (form : Form) → HasParts word name form → ⊥
no_parts_in word i j d e long next none other name form parts =
    no_parts (take i word) (get_or word i d) (get_or word (suc i) e)
    (subst (λ (k : ℕ). (f : Form) → AreLevels (get_or word i d) (get_or word k e) f → ⊥) next none)
    (subst (λ (k : ℕ). (get_or word i d ≡ 61) × (get_or word k e ≡ 61) → ⊥) next other) name form
    (subst (λ (w : List ℕ). HasParts w name form) (two_ends word i d e long) parts)

-- a word names one net
pub one_name : (word one other : List ℕ) (this that : Form) → HasParts word one this → HasParts word other that → one ≡ other
one_name word one other (Levels a b) (Levels c d) this that =
    let front = (ends_same (one ++ 61 ∷ []) (other ++ 61 ∷ []) (level_byte a ∷ level_byte b ∷ []) (level_byte c ∷ level_byte d ∷ []) refl
    (sym this.spelled ∙ that.spelled)).0 in
    (ends_same one other (61 ∷ []) (61 ∷ []) refl front).0
one_name word one other Equal Equal this that = (ends_same one other (61 ∷ 61 ∷ []) (61 ∷ 61 ∷ []) refl (sym this.spelled ∙ that.spelled)).0
one_name word one other Equal (Levels c d) this that =
    let ends = ends_in one 61 61 other (Levels c d) (sym this.spelled ∙ that.spelled) in
    absurd (byte_other c (two_first 61 61 (level_byte c) (level_byte d) ends))
one_name word one other (Levels a b) Equal this that =
    let ends = ends_in other 61 61 one (Levels a b) (sym that.spelled ∙ this.spelled) in
    absurd (byte_other a (two_first 61 61 (level_byte a) (level_byte b) ends))

-- ---- lines

form_long : (form : Form) → length (form_text form) ≡ 2
form_long (Levels a b) = refl
form_long Equal = refl

-- the front and what is asked of a line are the only ones
fields_same : (front : List ℕ) (blank : ℕ) (other : List ℕ) (apart : ℕ) (this that : Form)
    → front ++ blank ∷ form_text this ≡ other ++ apart ∷ form_text that → (front ≡ other) × (blank ∷ form_text this ≡ apart ∷ form_text that)
fields_same front blank other apart this that same =
    ends_same front other (blank ∷ form_text this) (apart ∷ form_text that) (omega (arith, form_long this, form_long that)) same

-- a line names one net
one_field : (line one other : List ℕ) (this that : Form) → HasFields line one this → HasFields line other that → one ≡ other
one_field line one other this that is also =
    is.name_is ∙ ap end_trimmed (fields_same is.front is.blank also.front also.blank this that (sym is.spelled ∙ also.spelled)).0 ∙ sym also.name_is

three_ends : (line : List ℕ) (i d e f : ℕ) → length line ≡ suc (suc (suc i))
    → line ≡ take i line ++ get_or line i d ∷ get_or line (suc i) e ∷ get_or line (suc (suc i)) f ∷ []
three_ends [] i d e f long = absurd (omega (arith, long))
three_ends (x ∷ []) i d e f long = absurd (omega (arith, long))
three_ends (x ∷ y ∷ []) i d e f long = absurd (omega (arith, long))
three_ends (x ∷ y ∷ z ∷ []) zero d e f long = refl
three_ends (x ∷ y ∷ z ∷ w ∷ line) zero d e f long = absurd (omega (arith, long))
three_ends (x ∷ y ∷ z ∷ line) (suc i) d e f long = ap (λ (l : List ℕ). x ∷ l) (three_ends (y ∷ z ∷ line) i d e f (omega (arith, long)))

-- of a line with fields the bytes in front, the blank, and what is asked
pub fields_in : (line name : List ℕ) (form : Form) (i d e f : ℕ) → length line ≡ suc (suc (suc i)) → HasFields line name form
    → (name ≡ end_trimmed (take i line)) × (is_ascii_whitespace (get_or line i d) ≡ true)
    × AsksForm (get_or line (suc i) e) (get_or line (suc (suc i)) f) form
fields_in line name form i d e f long is =
    let ends = ends_same (take i line) is.front (get_or line i d ∷ get_or line (suc i) e ∷ get_or line (suc (suc i)) f ∷ []) (is.blank ∷ form_text form)
    (omega (arith, form_long form)) (sym (three_ends line i d e f long) ∙ is.spelled) in
    let blank : get_or line i d ≡ is.blank = ap (λ (l : List ℕ). get_or l 0 0) ends.1 in (
      is.name_is ∙ ap end_trimmed (sym ends.0),
      ap is_ascii_whitespace blank ∙ is.apart,
      (ap (λ (l : List ℕ). drop 1 l) ends.1, is.asks),
    )

-- a line whose last field asks this has these fields
pub some_fields : (line name : List ℕ) (form : Form) (i j k d e f : ℕ) → length line ≡ suc (suc (suc i)) → j ≡ suc i → k ≡ suc (suc i)
    → name ≡ end_trimmed (take i line) → 0 < length name → is_ascii_whitespace (get_or line i d) ≡ true
    → AsksForm (get_or line j e) (get_or line k f) form → HasFields line name form
some_fields line name form i j k d e f long second third name_is named apart asks = record {
  front = take i line;
  blank = get_or line i d;
  spelled =
      three_ends line i d e f long
      ∙ ap (λ (end : List ℕ). take i line ++ get_or line i d ∷ end)
      (subst (λ (n : ℕ). get_or line n e ∷ get_or line (suc (suc i)) f ∷ [] ≡ form_text form) second
      (subst (λ (n : ℕ). get_or line j e ∷ get_or line n f ∷ [] ≡ form_text form) third asks.0));
  apart = apart;
  name_is = name_is;
  named = named;
  asks = asks.1;
}

-- a line whose last field asks nothing has none
pub no_fields : (line : List ℕ) (i j k e f : ℕ) → length line ≡ suc (suc (suc i)) → j ≡ suc i → k ≡ suc (suc i)
    → ((form : Form) → AsksForm (get_or line j e) (get_or line k f) form → ⊥) → (name : List ℕ) (form : Form) → HasFields line name form → ⊥
no_fields line i j k e f long second third none name form is =
    none form (subst (λ (n : ℕ). AsksForm (get_or line n e) (get_or line k f) form) (sym second)
    (subst (λ (n : ℕ). AsksForm (get_or line (suc i) e) (get_or line n f) form) (sym third) (fields_in line name form i 0 e f long is).2))

-- nor has one in which nothing stands before that
pub unnamed : (line name : List ℕ) (i : ℕ) → length line ≡ suc (suc (suc i)) → name ≡ end_trimmed (take i line) → length name ≡ 0
    → (other : List ℕ) (form : Form) → HasFields line other form → ⊥
unnamed line name i long name_is empty other form is =
    let same : other ≡ name = (fields_in line other form i 0 0 0 long is).0 ∙ sym name_is in
    omega (arith, is.named, empty, ap length same)

-- or no blank
pub unparted : (line : List ℕ) (i d : ℕ) → length line ≡ suc (suc (suc i)) → is_ascii_whitespace (get_or line i d) ≡ false
    → (name : List ℕ) (form : Form) → HasFields line name form → ⊥
unparted line i d long blank name form is = true≢false (sym (fields_in line name form i d 0 0 long is).1 ∙ blank)

-- what two characters ask, that ask for no levels and are no two equal signs
pub no_form : (f g : ℕ) → ((form : Form) → AreLevels f g form → ⊥) → ((f ≡ 61) × (g ≡ 61) → ⊥) → (form : Form) → AsksForm f g form → ⊥
no_form f g none other (Levels a b) asks =
    none (Levels a b) (two_first f g (level_byte a) (level_byte b) asks.0, two_second f g (level_byte a) (level_byte b) asks.0, asks.1)
no_form f g none other Equal asks = other (two_first f g 61 61 asks.0, two_second f g 61 61 asks.0)

pub none_weaker : {X : Type 0} {P Q : Type 0} (found : Option X) → (P → Q) → IfNone found P → IfNone found Q
none_weaker None gives is = gives is
none_weaker (Some x) gives is = tt

-- a word or line names one net
pub one_spelled : (quote : Quote) (one other : List ℕ) (this that : Form) → Spells quote one this → Spells quote other that → one ≡ other
one_spelled quote one other this that is also = go quote.line is also
  where
    go : (line : Option ℕ) → SpellsAt line quote.text one this → SpellsAt line quote.text other that → one ≡ other
    go None is also = one_name quote.text one other this that is also
    go (Some number) is also = one_field quote.text one other this that is also

-- one word or line more, of which the name is there
pub names_more : (quotes : List Quote) (names new : List (List ℕ)) (quote : Quote) (name : List ℕ) (form : Form) → AreNames quotes names → Spells quote name form
    → Contains new name → ((other : List ℕ) → Contains names other → Contains new other) → AreNames (quotes ++ quote ∷ []) new
names_more quotes names new quote name form are parts there kept this its asks here has =
    elim (Contains-push_cases quotes quote this here) [
      | inl before ↦ kept its (are this its asks before has)
      | inr same ↦ subst (λ (n : List ℕ). Contains new n)
          (one_spelled quote name its form asks parts (subst (λ (w : Quote). Spells w its asks) (sym same) has)) there
    ]

-- one word or line more, which names none
pub names_same : (quotes : List Quote) (names : List (List ℕ)) (quote : Quote) → AreNames quotes names → ((name : List ℕ) (form : Form) → Spells quote name form → ⊥)
    → AreNames (quotes ++ quote ∷ []) names
names_same quotes names quote are none this its asks here has =
    elim (Contains-push_cases quotes quote this here) [
      | inl before ↦ are this its asks before has
      | inr same ↦ absurd (none its asks (subst (λ (w : Quote). Spells w its asks) (sym same) has))
    ]
