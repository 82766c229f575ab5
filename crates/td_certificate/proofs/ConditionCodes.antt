-- Conditions are a code.
use Rattle.std.proofs.Common.{◌≡◌, ◌≢◌, ℕ, ◌≤◌, ◌<◌, Bool, true, false, List, [], ◌∷◌, ◌++◌, length, Ok, Err, Some, ◌⊎◌, inl, inr, refl, sym, ap, subst, ◌∙◌, append_assoc, arith}
use Rattle.std.specs.Prelude.{codes, decimal}
use Rattle.std.specs.List.{AllByRecursion}
use Rattle.std.proofs.lemmas.List.{append-nil, length-append}
use Rattle.td_gates.specs.declared.primitives.Level.{Level}
use Rattle.td_gates.specs.declared.primitives.Level.TheVariants.{Zero, One, X}
use Rattle.td_spans.specs.declared.condition.Form.{Form}
use Rattle.td_spans.specs.declared.condition.Form.TheVariants.{Levels, Equal}
use Rattle.td_refutation.specs.declared.conditions.NamedCondition.{NamedCondition}
use Rattle.td_certificate.specs.declared.conditions.Sign.{Sign}
use Rattle.td_certificate.specs.declared.conditions.Sign.TheVariants as sign
use Rattle.td_certificate.specs.declared.fields.Stop as code_stop
use Rattle.td_certificate.specs.declared.fields.Reason.TheVariants.{Syntax}
use Rattle.td_certificate.specs.Spelling.{greatest, IsCondition, AreConditions}
use Rattle.td_certificate.specs.Text.{level_byte, form_text, condition, conditions}
use Rattle.td_certificate.specs.Reading.{Reading, Wrong, ◌>>=◌, Fails, literal, number_at, written_as, char_at}
use Rattle.td_certificate.specs.StepReading.{until_at, until_within, closing_byte}
use Rattle.td_certificate.specs.ConditionReading.{sign_byte, signs, second_levels, behind_sign, form_at, condition_by, condition_at, conditions_at, kept_at}
use Rattle.td_certificate.proofs.Loops.{with_front}
use Rattle.td_certificate.proofs.Choices.{choice, IsChoice, choice_code}
use Rattle.td_certificate.proofs.Codes.{IsCode, IsCode-then, IsCode-done}
use Rattle.td_certificate.proofs.FieldCodes.{Always, AtMost, IsLimit, number_text, number_code}
use Rattle.td_certificate.proofs.StepCodes.{close_letter}
use Rattle.td_certificate.proofs.VectorCodes.{IsLetter, written_from, char_code, behind_word, mapped_code, IsCode-as, same_code}
use Rattle.td_certificate.proofs.Until.{IsUntil, Parts, alone, before, until_code, shorter}
use Rattle.td_certificate.proofs.ListLoops.{listed_more, listed_done, listed_stop}

-- ---- forms

sign_letter : IsLetter Always (λ b. written_as sign_byte signs b) sign_byte
sign_letter = record {
  some = sign.Equal;
  some_valid = tt;
  again = λ x v. again x;
  from = λ b x e. written_from Always sign_byte signs (tt, (tt, (tt, (tt, tt)))) b x e;
}
  where
    again : (x : Sign) → written_as sign_byte signs (sign_byte x) ≡ Some x
    again (sign.Level Zero) = refl
    again (sign.Level One) = refl
    again (sign.Level X) = refl
    again sign.Equal = refl

-- a level that may follow the first of a form
abbrev IsSecond : Level → Level → Type 0
IsSecond first second = Levels first second ≢ Levels X X

two_free : Levels X X ≢ Levels X X → ⊥
two_free other = other refl

second_letter : (first : Level) → IsLetter (IsSecond first) (λ b. written_as level_byte (second_levels first) b) level_byte
second_letter Zero = record {
  some = Zero;
  some_valid = λ e. cc;
  again = λ x v. again x;
  from = λ b x e. written_from (IsSecond Zero) level_byte (Zero ∷ One ∷ X ∷ []) ((λ e. cc), ((λ e. cc), ((λ e. cc), tt))) b x e;
}
  where
    again : (x : Level) → written_as level_byte (Zero ∷ One ∷ X ∷ []) (level_byte x) ≡ Some x
    again Zero = refl
    again One = refl
    again X = refl
second_letter One = record {
  some = Zero;
  some_valid = λ e. cc;
  again = λ x v. again x;
  from = λ b x e. written_from (IsSecond One) level_byte (Zero ∷ One ∷ X ∷ []) ((λ e. cc), ((λ e. cc), ((λ e. cc), tt))) b x e;
}
  where
    again : (x : Level) → written_as level_byte (Zero ∷ One ∷ X ∷ []) (level_byte x) ≡ Some x
    again Zero = refl
    again One = refl
    again X = refl
second_letter X = record {
  some = Zero;
  some_valid = λ e. cc;
  again = again;
  from = λ b x e. written_from (IsSecond X) level_byte (Zero ∷ One ∷ []) ((λ e. cc), ((λ e. cc), tt)) b x e;
}
  where
    again : (x : Level) → IsSecond X x → written_as level_byte (Zero ∷ One ∷ []) (level_byte x) ≡ Some x
    again Zero v = refl
    again One v = refl
    again X v = absurd (two_free v)

abbrev sign_of : Form → Sign
sign_of (Levels first second) = sign.Level first
sign_of Equal = sign.Equal

abbrev second_of : Form → Level
second_of (Levels first second) = second
second_of Equal = X

abbrev IsForm : Form → Type 0
IsForm form = form ≢ Levels X X

-- a form that begins with this sign
abbrev IsBehind : Sign → Form → Type 0
IsBehind (sign.Level first) form = IsSecond first (second_of form) × (form ≡ Levels first (second_of form))
IsBehind sign.Equal form = form ≡ Equal

abbrev behind_text : Sign → Form → List ℕ
behind_text (sign.Level first) form = level_byte (second_of form) ∷ []
behind_text sign.Equal form = codes "=" ++ []

behind_code : (begins : Sign) → IsCode (IsBehind begins) (behind_text begins) (behind_sign begins)
unfolding behind_sign
behind_code (sign.Level first) =
    mapped_code (Levels first) second_of (IsSecond first) (λ second. level_byte second ∷ []) (char_at (λ b. written_as level_byte (second_levels first) b)) (λ second. refl)
    (char_code (IsSecond first) (λ b. written_as level_byte (second_levels first) b) level_byte (second_letter first))
behind_code sign.Equal = behind_word (codes "=") (λ form. form ≡ Equal) (λ form. []) (λ bytes. Ok (Equal, bytes)) (IsCode-done Equal)

form_down : (form : Form) → IsForm form → Always (sign_of form) × IsBehind (sign_of form) form × (form_text form ≡ (sign_byte (sign_of form) ∷ []) ++ behind_text (sign_of form) form)
form_down (Levels first second) v = (tt, (v, refl), refl)
form_down Equal v = (tt, refl, refl)

form_up : (begins : Sign) (form : Form) → IsBehind begins form → IsForm form × (form_text form ≡ (sign_byte begins ∷ []) ++ behind_text begins form)
form_up (sign.Level first) form v = (
  subst IsForm (sym v.1) v.0,
  ap form_text v.1,
)
form_up sign.Equal form v = (subst IsForm (sym v) (λ e. cc), ap form_text v)

form_code : IsCode IsForm form_text form_at
unfolding form_at
form_code =
    IsCode-then sign_of Always (λ begins. sign_byte begins ∷ []) (char_at (λ b. written_as sign_byte signs b)) IsBehind behind_text behind_sign IsForm form_text
    (char_code Always (λ b. written_as sign_byte signs b) sign_byte sign_letter)
    (λ begins u. behind_code begins)
    (record { down = form_down; up = λ begins form u w. form_up begins form w })

-- ---- a condition and the byte that closes it

abbrev Closed : Type 0
Closed = NamedCondition × Bool

abbrev IsClosed : Closed → Type 0
IsClosed x = IsCondition x.0

abbrev closed_text : Closed → List ℕ
closed_text x = number_text 32 x.0.net ++ (form_text x.0.form ++ closing_byte x.1 ∷ [])

abbrev IsOfForm : ℕ → Form → Closed → Type 0
IsOfForm net form x = x ≡ (condition_by net form, x.1)

close_behind : (net : ℕ) (form : Form) → IsCode (λ (x : Closed). Always x.1 × IsOfForm net form x) (λ x. closing_byte x.1 ∷ [])
    (λ bytes. char_at (λ b. written_as closing_byte (true ∷ false ∷ []) b) bytes >>= λ close. Ok ((condition_by net form, close.0), close.1))
close_behind net form =
    mapped_code (λ (last : Bool). (condition_by net form, last)) (λ (x : Closed). x.1) Always (λ last. closing_byte last ∷ []) (char_at (λ b. written_as closing_byte (true ∷ false ∷ []) b)) (λ last. refl)
    (char_code Always (λ b. written_as closing_byte (true ∷ false ∷ []) b) closing_byte close_letter)

abbrev IsOfNet : ℕ → Closed → Type 0
IsOfNet net x = IsForm x.0.form × (x ≡ (condition_by net x.0.form, x.1))

form_behind : (net : ℕ) → IsCode (IsOfNet net) (λ x. form_text x.0.form ++ closing_byte x.1 ∷ [])
    (λ bytes. form_at bytes >>= λ form. char_at (λ b. written_as closing_byte (true ∷ false ∷ []) b) form.1 >>= λ close. Ok ((condition_by net form.0, close.0), close.1))
form_behind net =
    IsCode-then (λ (x : Closed). x.0.form) IsForm form_text form_at (λ form x. Always x.1 × IsOfForm net form x) (λ form x. closing_byte x.1 ∷ [])
    (λ form bytes. char_at (λ b. written_as closing_byte (true ∷ false ∷ []) b) bytes >>= λ close. Ok ((condition_by net form, close.0), close.1))
    (IsOfNet net) (λ x. form_text x.0.form ++ closing_byte x.1 ∷ []) form_code
    (λ form u. close_behind net form)
    (record {
      down = λ x u. (u.0, (tt, u.1), refl);
      up = λ form x u w.
          let p : x.0.form ≡ form = ap (λ (y : Closed). y.0.form) w.1 in (
            (subst IsForm (sym p) u, w.1 ∙ ap (λ (f : Form). (condition_by net f, x.1)) (sym p)),
            ap (λ (f : Form). form_text f ++ closing_byte x.1 ∷ []) p,
          );
    })

space_limit : IsLimit greatest 32
space_limit = record { high = omega arith; close_is = refl }

condition_code : IsCode IsClosed closed_text condition_at
unfolding condition_at
condition_code =
    IsCode-then (λ (x : Closed). x.0.net) (AtMost greatest) (number_text 32) (number_at greatest 32) IsOfNet (λ net x. form_text x.0.form ++ closing_byte x.1 ∷ [])
    (λ net bytes. form_at bytes >>= λ form. char_at (λ b. written_as closing_byte (true ∷ false ∷ []) b) form.1 >>= λ close. Ok ((condition_by net form.0, close.0), close.1))
    IsClosed closed_text (number_code greatest 32 space_limit)
    (λ net u. form_behind net)
    (record {
      down = λ x u. (u.0, (u.1, refl), refl);
      up = λ net x u w.
          let p : x.0.net ≡ net = ap (λ (y : Closed). y.0.net) w.1 in (
            (subst (AtMost greatest) (sym p) u, w.0),
            ap (λ (n : ℕ). number_text 32 n ++ (form_text x.0.form ++ closing_byte x.1 ∷ [])) p,
          );
    })

condition_long : (x : Closed) → 0 < length (closed_text x)
condition_long x =
    omega (arith, length-append (number_text 32 x.0.net) (form_text x.0.form ++ closing_byte x.1 ∷ []), length-append (form_text x.0.form) (closing_byte x.1 ∷ []))

-- ---- conditions

-- at least one condition
abbrev AreSome : List NamedCondition → Type 0
AreSome [] = ⊥
AreSome (c ∷ []) = IsCondition c
AreSome (c ∷ d ∷ cs) = IsCondition c × AreSome (d ∷ cs)

abbrev some_text : List NamedCondition → List ℕ
some_text [] = []
some_text (c ∷ []) = closed_text (c, true)
some_text (c ∷ d ∷ cs) = closed_text (c, false) ++ some_text (d ∷ cs)

abbrev is_last : Closed → Bool
is_last x = x.1

abbrev by_itself : Closed → List NamedCondition
by_itself x = x.0 ∷ []

abbrev in_front : Closed → List NamedCondition → List NamedCondition
in_front x others = x.0 ∷ others

parts_of : (cs : List NamedCondition) → AreSome cs → Parts is_last by_itself in_front IsClosed closed_text AreSome some_text cs
parts_of [] v = absurd v
parts_of (c ∷ []) v = alone (c, true) v refl refl refl
parts_of (c ∷ d ∷ cs) v = before (c, false) (d ∷ cs) v.0 refl v.1 refl refl

to_alone : (c : NamedCondition) (last : Bool) → IsCondition c → last ≡ true → AreSome (c ∷ []) × (some_text (c ∷ []) ≡ closed_text (c, last))
to_alone c true v h = (v, refl)
to_alone c false v h = absurd (let f : false ≡ true = h in cc)

to_before : (c : NamedCondition) (last : Bool) (cs : List NamedCondition) → IsCondition c → last ≡ false → AreSome cs
    → AreSome (c ∷ cs) × (some_text (c ∷ cs) ≡ closed_text (c, last) ++ some_text cs)
to_before c true cs v h w = absurd (let f : true ≡ false = h in cc)
to_before c false [] v h w = absurd w
to_before c false (d ∷ cs) v h w = ((v, w), refl)

some_condition : NamedCondition
some_condition = condition_by 0 Equal

conditions_until : IsUntil is_last by_itself in_front IsClosed closed_text AreSome some_text
conditions_until = record {
  some = (condition_by 0 Equal, true);
  some_is = (omega arith, λ e. cc);
  some_last = refl;
  long = λ x v. condition_long x;
  parts = parts_of;
  to_alone = λ x v h. to_alone x.0 x.1 v h;
  to_before = λ x others v h w. to_before x.0 x.1 others v h w;
}

some_code : IsCode AreSome some_text conditions_at
unfolding conditions_at
some_code = until_code condition_code conditions_until

to_conditions : (cs : List NamedCondition) → AreSome cs → AreConditions cs
to_conditions [] v = absurd v
to_conditions (c ∷ []) v = (v, tt)
to_conditions (c ∷ d ∷ cs) v = (v.0, to_conditions (d ∷ cs) v.1)

from_conditions : (c : NamedCondition) (cs : List NamedCondition) → AreConditions (c ∷ cs) → AreSome (c ∷ cs)
from_conditions c [] v = v.0
from_conditions c (d ∷ cs) v = (v.0, from_conditions d cs v.1)

-- ---- conditions, or none

abbrev pub kept_text : List NamedCondition → List ℕ
kept_text keep = conditions keep ++ codes "\n"

abbrev IsNone : List NamedCondition → Type 0
IsNone keep = keep ≡ []

none_code : IsCode IsNone kept_text (λ bytes. literal (codes "none\n") bytes >>= λ word. Ok ([], word.1))
none_code =
    IsCode-as IsNone IsNone (λ keep. codes "none\n" ++ []) kept_text (λ bytes. literal (codes "none\n") bytes >>= λ word. Ok ([], word.1)) (λ keep u. u) (λ keep u. u)
    (λ keep e. ap kept_text e)
    (behind_word (codes "none\n") IsNone (λ keep. []) (λ bytes. Ok ([], bytes)) (IsCode-done []))

regrouped : (net form close : List ℕ) → ((net ++ codes " ") ++ form) ++ close ≡ (net ++ 32 ∷ []) ++ (form ++ close)
regrouped net form close = append_assoc (net ++ codes " ") form close

some_is : (c : NamedCondition) (cs : List NamedCondition) → conditions (c ∷ cs) ++ codes "\n" ≡ some_text (c ∷ cs)
some_is c [] = regrouped (decimal c.net) (form_text c.form) (codes "\n")
some_is c (d ∷ cs) =
    append_assoc (condition c ++ codes " ") (conditions (d ∷ cs)) (codes "\n")
    ∙ ap (λ (t : List ℕ). (condition c ++ codes " ") ++ t) (some_is d cs)
    ∙ ap (λ (t : List ℕ). t ++ some_text (d ∷ cs)) (regrouped (decimal c.net) (form_text c.form) (codes " "))

all_is : (keep : List NamedCondition) → AreSome keep → kept_text keep ≡ some_text keep
all_is [] v = absurd v
all_is (c ∷ cs) v = some_is c cs

listed_code : IsCode AreSome kept_text conditions_at
listed_code = IsCode-as AreSome AreSome some_text kept_text conditions_at (λ keep u. u) (λ keep u. u) all_is some_code

conditions_apart : (rest : List ℕ) → conditions_at (110 ∷ rest) ≡ Err (Wrong Syntax (110 ∷ rest))
unfolding conditions_at until_at until_within condition_at number_at
conditions_apart rest = refl

kept_long : (keep : List NamedCondition) → 0 < length (kept_text keep)
kept_long keep = omega (arith, length-append (conditions keep) (codes "\n"))

kept_choice : IsChoice 110 IsNone AreSome kept_text (λ bytes. literal (codes "none\n") bytes >>= λ word. Ok ([], word.1)) conditions_at
kept_choice = record {
  one_code = none_code;
  other_code = listed_code;
  tail = λ keep. codes "one\n";
  begins = λ keep e. ap kept_text e;
  long = λ keep u. kept_long keep;
  why = Syntax;
  stops = conditions_apart;
}

to_kept : (keep : List NamedCondition) → IsNone keep ⊎ AreSome keep → AreConditions keep
to_kept keep (inl e) = subst AreConditions (sym e) tt
to_kept keep (inr u) = to_conditions keep u

from_kept : (keep : List NamedCondition) → AreConditions keep → IsNone keep ⊎ AreSome keep
from_kept [] v = inl refl
from_kept (c ∷ cs) v = inr (from_conditions c cs v)

kept_by_choice : (bytes : List ℕ) → kept_at bytes ≡ choice 110 (λ bytes. literal (codes "none\n") bytes >>= λ word. Ok ([], word.1)) conditions_at bytes
unfolding kept_at
kept_by_choice [] = refl
kept_by_choice (b ∷ bytes) = refl

pub kept_code : IsCode AreConditions kept_text kept_at
kept_code =
    same_code AreConditions kept_text kept_at (choice 110 (λ bytes. literal (codes "none\n") bytes >>= λ word. Ok ([], word.1)) conditions_at) kept_by_choice
    (IsCode-as (λ keep. IsNone keep ⊎ AreSome keep) AreConditions kept_text kept_text
    (choice 110 (λ bytes. literal (codes "none\n") bytes >>= λ word. Ok ([], word.1)) conditions_at)
    to_kept from_kept (λ keep u. refl)
    (choice_code 110 IsNone AreSome kept_text (λ bytes. literal (codes "none\n") bytes >>= λ word. Ok ([], word.1)) conditions_at kept_choice))

-- ---- the loop that reads them

pub condition_shorter : (bytes : List ℕ) (x : Closed × List ℕ) → condition_at bytes ≡ Ok x → length x.1 < length bytes
condition_shorter bytes x e = shorter condition_code (λ x v. condition_long x) bytes x e

pub conditions_more : (front : List NamedCondition) (c : NamedCondition) (last : Bool) (rest after : List ℕ) (total : Reading (List NamedCondition))
    → condition_at rest ≡ Ok ((c, last), after) → last ≡ false → with_front front (conditions_at rest) ≡ total
    → with_front (front ++ c ∷ []) (conditions_at after) ≡ total
unfolding conditions_at
conditions_more front c last rest after total e h so_far = listed_more condition_code (λ x v. condition_long x) front c last rest after total e h so_far

pub conditions_done : (front : List NamedCondition) (c : NamedCondition) (last : Bool) (rest after : List ℕ) (total : Reading (List NamedCondition))
    → condition_at rest ≡ Ok ((c, last), after) → last ≡ true → with_front front (conditions_at rest) ≡ total → total ≡ Ok (front ++ c ∷ [], after)
unfolding conditions_at
conditions_done front c last rest after total e h so_far = listed_done condition_code (λ x v. condition_long x) front c last rest after total e h so_far

pub conditions_stop : (stop : code_stop.Stop) (front : List NamedCondition) (rest : List ℕ) (total : Reading (List NamedCondition))
    → Fails stop (condition_at rest) → with_front front (conditions_at rest) ≡ total → Fails stop total
unfolding conditions_at
conditions_stop stop front rest total e so_far = listed_stop condition_code (λ x v. condition_long x) stop front rest total e so_far
