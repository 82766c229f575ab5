-- Numbers of a line, lines of a leaf that is refuted, and all of them are codes.
use Rattle.std.proofs.Common.{◌≡◌, ℕ, ◌+◌, ◌-◌, ◌*◌, ◌/◌, ◌%◌, ◌^◌, ◌<◌, ◌≤◌, Bool, true, false, eqb, ltb, leb, List, [], ◌∷◌, ◌++◌, length, Ok, Err, Option, Some, None, refl, sym, ap, subst, ◌∙◌, append_assoc, arith}
use Rattle.std.specs.Prelude.{codes, decimal}
use Rattle.std.specs.List.{AllByRecursion}
use Rattle.std.specs.Char.{is_ascii_digit}
use Rattle.std.proofs.lemmas.List.{append-nil, length-append}
use Rattle.std.proofs.lemmas.List.Concat.{flat_map-cons}
use Rattle.std.proofs.lemmas.Bool.{eqb-true, ne_eqb, ltb-true, lt-ltb, leb-true, le-leb}
use Rattle.std.proofs.lemmas.Fmt.{decimal_digit, decimal_by_steps}
use Rattle.td_refutation.specs.declared.kind.StepKind.{StepKind}
use Rattle.td_refutation.specs.declared.kind.StepKind.TheVariants.{First, Last, Span, Flips, Gate, Table, Net, Pairs, Keep, Lemma, End, Again}
use Rattle.td_certificate.specs.declared.fields.Reason.{Reason}
use Rattle.td_certificate.specs.declared.fields.Reason.TheVariants.{Syntax, NumberTooLarge}
use Rattle.td_certificate.specs.Spelling.{greatest}
use Rattle.td_refutation.specs.Whole.{Step}
use Rattle.td_certificate.specs.Steps.{Refuted, kind_byte, spaced, step_text, steps_text, IsStep, IsBoundText, IsRefutedText}
use Rattle.td_certificate.specs.Reading.{Ends, Wrong, ◌>>=◌, number_or_none, written_as, char_at}
use Rattle.td_certificate.specs.StepReading.{open_digits_at, open_number_at, numbers_at, closing_byte, numbers_after, spaced_at, LineTag, StepTag, BoundEndTag, line_byte, line_tags, RefutedLine, StepLine, BoundLine, behind_line_tag, refuted_line_at, is_bound_line, bound_alone, step_before, refuted_at}
use Rattle.td_certificate.proofs.Loops.{done, done_is}
use Rattle.td_certificate.proofs.Codes.{IsCode, IsFrontOf, IsStopped, IsCode-then, IsCode-done}
use Rattle.td_certificate.proofs.FieldCodes.{ends, wrong, stopped_at_once, stopped_behind, Always, digit_range, range_digit, decimal_more}
use Rattle.td_certificate.proofs.VectorCodes.{cases, IsLetter, written_from, char_code, behind_word, mapped_code}
use Rattle.td_certificate.proofs.ToldCodes.{told_text, bound_code}
use Rattle.td_certificate.proofs.Until.{IsUntil, Parts, alone, before, until_code}

-- ---- a number and the byte that closes it

abbrev pub IsOpen : ℕ × Bool → Type 0
IsOpen x = x.0 ≤ greatest

abbrev pub open_text : ℕ × Bool → List ℕ
open_text x = decimal x.0 ++ closing_byte x.1 ∷ []

not_ten : (b : ℕ) → is_ascii_digit b ≡ true → eqb b 10 ≡ false
not_ten b d = ne_eqb b 10 (λ e. let h : is_ascii_digit b ≡ false = ap is_ascii_digit e in cc)

not_space : (b : ℕ) → is_ascii_digit b ≡ true → eqb b 32 ≡ false
not_space b d = ne_eqb b 32 (λ e. let h : is_ascii_digit b ≡ false = ap is_ascii_digit e in cc)

open_more : (number b : ℕ) (rest : List ℕ) → is_ascii_digit b ≡ true → 0 < number → 10 * number + (b - 48) ≤ greatest
    → open_digits_at number (b ∷ rest) ≡ open_digits_at (10 * number + (b - 48)) rest
unfolding open_digits_at
open_more number b rest d pos le = rw (not_ten b d, not_space b d, d, lt-ltb 0 number pos, le-leb (10 * number + (b - 48)) greatest le) refl

open_closed : (number : ℕ) (last : Bool) (rest : List ℕ) → open_digits_at number (closing_byte last ∷ rest) ≡ Ok ((number, last), rest)
unfolding open_digits_at
open_closed number true rest = refl
open_closed number false rest = refl

open_first : (b : ℕ) (rest : List ℕ) → is_ascii_digit b ≡ true → open_number_at (b ∷ rest) ≡ open_digits_at (b - 48) rest
unfolding open_number_at
open_first b rest d = rw d refl

open_refused : (b : ℕ) (rest : List ℕ) → is_ascii_digit b ≡ false → open_number_at (b ∷ rest) ≡ Err (Wrong Syntax (b ∷ rest))
unfolding open_number_at
open_refused b rest d = rw d refl

open_none : open_number_at [] ≡ Err Ends
unfolding open_number_at
open_none = refl

-- a number's text is read up to its end
record Goes (number : ℕ) (text : List ℕ) : Type 0 where
  on : number ≤ greatest → (rest : List ℕ) → open_number_at (text ++ rest) ≡ open_digits_at number rest

goes_one : (n : ℕ) → n < 10 → Goes n ((48 + n) ∷ [])
goes_one n lt = record {
  on = λ le rest. open_first (48 + n) rest (range_digit (48 + n) (omega arith) (omega arith)) ∙ ap (λ (k : ℕ). open_digits_at k rest) (omega arith);
}

goes_more : (n : ℕ) (ds : List ℕ) → 10 ≤ n → Goes (n / 10) ds → Goes n (ds ++ ((48 + n % 10) ∷ []))
goes_more n ds le front = record {
  on = λ within rest.
      let q : 10 * (n / 10) + (48 + n % 10 - 48) ≡ n = omega arith in
      ap open_number_at (append_assoc ds ((48 + n % 10) ∷ []) rest)
      ∙ front.on (omega arith) ((48 + n % 10) ∷ rest)
      ∙ open_more (n / 10) (48 + n % 10) rest (range_digit (48 + n % 10) (omega arith) (omega arith)) (omega arith) (omega arith)
      ∙ ap (λ (k : ℕ). open_digits_at k rest) q;
}

number_goes : (number : ℕ) (rest : List ℕ) → number ≤ greatest → open_number_at (decimal number ++ rest) ≡ open_digits_at number rest
number_goes number rest le = (decimal_by_steps Goes goes_one goes_more number (omega arith)).on le rest

-- what each test of a further byte tells
record Further (number b : ℕ) : Type 0 where
  digit : is_ascii_digit b ≡ true
  pos : 0 < number
  within : 10 * number + (b - 48) ≤ greatest

data Tells (number b : ℕ) (rest : List ℕ) : Type 0 where
  closes : (last : Bool) → b ≡ closing_byte last → open_digits_at number (b ∷ rest) ≡ Ok ((number, last), rest) → Tells number b rest
  more : Further number b → Tells number b rest
  bad : (why : Reason) → ((other : List ℕ) → open_digits_at number (b ∷ other) ≡ Err (Wrong why (b ∷ other))) → Tells number b rest

tells : (number b : ℕ) (rest : List ℕ) → Tells number b rest
unfolding open_digits_at
tells number b rest =
    elim (eqb b 10) as (λ t. eqb b 10 ≡ t → Tells number b rest) [
      | true ↦ λ same. closes true (eqb-true b 10 same) (rw same refl)
      | false ↦ λ other. elim (eqb b 32) as (λ t. eqb b 32 ≡ t → Tells number b rest) [
        | true ↦ λ same. closes false (eqb-true b 32 same) (rw (other, same) refl)
        | false ↦ λ another. elim (is_ascii_digit b) as (λ t. is_ascii_digit b ≡ t → Tells number b rest) [
          | true ↦ λ digit. elim (ltb 0 number) as (λ t. ltb 0 number ≡ t → Tells number b rest) [
            | true ↦ λ pos. elim (leb (10 * number + (b - 48)) greatest) as (λ t. leb (10 * number + (b - 48)) greatest ≡ t → Tells number b rest) [
              | true ↦ λ within. more (record { digit = digit; pos = ltb-true 0 number pos; within = leb-true (10 * number + (b - 48)) greatest within })
              | false ↦ λ above. bad NumberTooLarge (λ later. rw (other, another, digit, pos, above) refl)
            ] refl
            | false ↦ λ none. bad Syntax (λ later. rw (other, another, digit, none) refl)
          ] refl
          | false ↦ λ none. bad Syntax (λ later. rw (other, another, none) refl)
        ] refl
      ] refl
    ] refl

-- one digit more in front of the others
digit_on : (number b : ℕ) (bytes : List ℕ) → Further number b → decimal (10 * number + (b - 48)) ++ bytes ≡ decimal number ++ b ∷ bytes
digit_on number b bytes f =
    let r = digit_range b f.digit in
    ap (λ (t : List ℕ). t ++ bytes) (decimal_more number b f.pos r.0 r.1 (omega (arith, f.within))) ∙ append_assoc (decimal number) (b ∷ []) bytes

open_take : (number : ℕ) (bytes : List ℕ) (x : ℕ × Bool) (rest : List ℕ) → number ≤ greatest → open_digits_at number bytes ≡ Ok (x, rest)
    → IsOpen x × (decimal number ++ bytes ≡ open_text x ++ rest)
open_take number [] x rest le e = let h : ends ≡ done (x, rest) = (unfold open_digits_at in e) in absurd cc
open_take number (b ∷ bytes) x rest le e =
    elim (tells number b bytes) [
      | closes last same ok ↦
          let p : ((number, last), bytes) ≡ (x, rest) = done_is ((number, last), bytes) (x, rest) (sym ok ∙ e) in
          let one : decimal number ++ b ∷ bytes ≡ open_text (number, last) ++ bytes = ap (λ (c : ℕ). decimal number ++ c ∷ bytes) same ∙ sym (append_assoc (decimal number) (closing_byte last ∷ []) bytes) in
          subst (λ (y : (ℕ × Bool) × List ℕ). IsOpen y.0 × (decimal number ++ b ∷ bytes ≡ open_text y.0 ++ y.1)) p (le, one)
      | more f ↦
          let q = open_take (10 * number + (b - 48)) bytes x rest f.within (sym (open_more number b bytes f.digit f.pos f.within) ∙ e) in
          (q.0, sym (digit_on number b bytes f) ∙ q.1)
      | bad why w ↦ absurd (let h : wrong why (b ∷ bytes) ≡ done (x, rest) = sym (w bytes) ∙ e in cc)
    ]

open_end : (number : ℕ) (bytes : List ℕ) → number ≤ greatest → open_digits_at number bytes ≡ Err Ends → IsFrontOf IsOpen open_text (decimal number ++ bytes)
open_end number [] le e = record {
  value = (number, true);
  has = le;
  next = 10;
  later = [];
  parts = ap (λ (t : List ℕ). t ++ 10 ∷ []) (sym (append-nil (decimal number)));
}
open_end number (b ∷ bytes) le e =
    elim (tells number b bytes) [
      | closes last same ok ↦ absurd (let h : done ((number, last), bytes) ≡ ends = sym ok ∙ e in cc)
      | more f ↦
          subst (λ (t : List ℕ). IsFrontOf IsOpen open_text t) (digit_on number b bytes f)
          (open_end (10 * number + (b - 48)) bytes f.within (sym (open_more number b bytes f.digit f.pos f.within) ∙ e))
      | bad why w ↦ absurd (let h : wrong {A = ℕ × Bool} why (b ∷ bytes) ≡ ends = sym (w bytes) ∙ e in cc)
    ]

digits_none : (number : ℕ) → open_digits_at number [] ≡ Err Ends
unfolding open_digits_at
digits_none number = refl

open_stop : (number : ℕ) (bytes rest : List ℕ) (reason : Reason) → number ≤ greatest → open_digits_at number bytes ≡ Err (Wrong reason rest) → IsStopped (open_digits_at number) bytes rest
open_stop number [] rest reason le e = absurd (let h : ends {A = ℕ × Bool} ≡ wrong reason rest = sym (digits_none number) ∙ e in cc)
open_stop number (b ∷ bytes) rest reason le e =
    elim (tells number b bytes) [
      | closes last same ok ↦ absurd (let h : done ((number, last), bytes) ≡ wrong reason rest = sym ok ∙ e in cc)
      | more f ↦
          stopped_behind (open_digits_at number) (open_digits_at (10 * number + (b - 48))) b bytes rest
          (open_stop (10 * number + (b - 48)) bytes rest reason f.within (sym (open_more number b bytes f.digit f.pos f.within) ∙ e))
          (λ other h. open_more number b other f.digit f.pos f.within ∙ h) (λ other at why h. open_more number b other f.digit f.pos f.within ∙ h)
      | bad why w ↦ stopped_at_once (open_digits_at number) b bytes rest why reason (sym (w bytes) ∙ e) (digits_none number) w
    ]

-- a digit, and its number
digit_small : (b : ℕ) → is_ascii_digit b ≡ true → b - 48 ≤ greatest
digit_small b d = let r = digit_range b d in omega (arith, r.0, r.1)

digit_text : (b : ℕ) (bytes : List ℕ) → is_ascii_digit b ≡ true → decimal (b - 48) ++ bytes ≡ b ∷ bytes
digit_text b bytes d =
    let r = digit_range b d in
    let back : 48 + (b - 48) ≡ b = omega (arith, r.0) in
    ap (λ (t : List ℕ). t ++ bytes) (decimal_digit (b - 48) (omega (arith, r.1))) ∙ ap (λ (n : ℕ). n ∷ bytes) back

open_takes : (bytes : List ℕ) (x : ℕ × Bool) (rest : List ℕ) → open_number_at bytes ≡ Ok (x, rest) → IsOpen x × (bytes ≡ open_text x ++ rest)
open_takes [] x rest e = absurd (let h : ends ≡ done (x, rest) = sym open_none ∙ e in cc)
open_takes (b ∷ bytes) x rest e =
    cases (is_ascii_digit b)
    (λ d. let q = open_take (b - 48) bytes x rest (digit_small b d) (sym (open_first b bytes d) ∙ e) in (q.0, sym (digit_text b bytes d) ∙ q.1))
    (λ d. absurd (let h : wrong Syntax (b ∷ bytes) ≡ done (x, rest) = sym (open_refused b bytes d) ∙ e in cc))

open_ends : (bytes : List ℕ) → open_number_at bytes ≡ Err Ends → IsFrontOf IsOpen open_text bytes
open_ends [] e = record { value = (0, true); has = omega arith; next = 48; later = 10 ∷ []; parts = ap (λ (t : List ℕ). t ++ 10 ∷ []) (decimal_digit 0 (omega arith)) }
open_ends (b ∷ bytes) e =
    cases (is_ascii_digit b)
    (λ d.
    subst (λ (t : List ℕ). IsFrontOf IsOpen open_text t) (digit_text b bytes d)
    (open_end (b - 48) bytes (digit_small b d) (sym (open_first b bytes d) ∙ e)))
    (λ d. absurd (let h : wrong {A = ℕ × Bool} Syntax (b ∷ bytes) ≡ ends = sym (open_refused b bytes d) ∙ e in cc))

open_stops : (bytes rest : List ℕ) (reason : Reason) → open_number_at bytes ≡ Err (Wrong reason rest) → IsStopped open_number_at bytes rest
open_stops [] rest reason e = absurd (let h : ends {A = ℕ × Bool} ≡ wrong reason rest = sym open_none ∙ e in cc)
open_stops (b ∷ bytes) rest reason e =
    cases (is_ascii_digit b)
    (λ d.
    stopped_behind open_number_at (open_digits_at (b - 48)) b bytes rest
    (open_stop (b - 48) bytes rest reason (digit_small b d) (sym (open_first b bytes d) ∙ e))
    (λ other h. open_first b other d ∙ h) (λ other at why h. open_first b other d ∙ h))
    (λ d. stopped_at_once open_number_at b bytes rest Syntax reason (sym (open_refused b bytes d) ∙ e) open_none (λ other. open_refused b other d))

pub open_code : IsCode IsOpen open_text open_number_at
open_code = record {
  some = (0, true);
  some_valid = omega arith;
  takes = λ bytes x rest e. open_takes bytes x rest e;
  again = λ x rest le.
      ap open_number_at (append_assoc (decimal x.0) (closing_byte x.1 ∷ []) rest) ∙ number_goes x.0 (closing_byte x.1 ∷ rest) le ∙ open_closed x.0 x.1 rest;
  ends = λ bytes e. open_ends bytes e;
  stops = λ bytes rest reason e. open_stops bytes rest reason e;
}

-- ---- the numbers of a line

-- at least one number, none of them too great
abbrev pub IsNumbers : List ℕ → Type 0
IsNumbers [] = ⊥
IsNumbers (n ∷ []) = n ≤ greatest
IsNumbers (n ∷ m ∷ ns) = (n ≤ greatest) × IsNumbers (m ∷ ns)

-- a space between each two, and the newline
abbrev pub numbers_text : List ℕ → List ℕ
numbers_text [] = []
numbers_text (n ∷ []) = decimal n ++ 10 ∷ []
numbers_text (n ∷ m ∷ ns) = decimal n ++ 32 ∷ numbers_text (m ∷ ns)

abbrev number_last : ℕ × Bool → Bool
number_last x = x.1

abbrev number_alone : ℕ × Bool → List ℕ
number_alone x = x.0 ∷ []

abbrev number_before : ℕ × Bool → List ℕ → List ℕ
number_before x others = x.0 ∷ others

numbers_parts : (ns : List ℕ) → IsNumbers ns → Parts number_last number_alone number_before IsOpen open_text IsNumbers numbers_text ns
numbers_parts [] v = absurd v
numbers_parts (n ∷ []) v = alone (n, true) v refl refl refl
numbers_parts (n ∷ m ∷ ns) v = before (n, false) (m ∷ ns) v.0 refl v.1 refl (sym (append_assoc (decimal n) (32 ∷ []) (numbers_text (m ∷ ns))))

number_to_alone : (n : ℕ) (last : Bool) → n ≤ greatest → last ≡ true → IsNumbers (n ∷ []) × (numbers_text (n ∷ []) ≡ open_text (n, last))
number_to_alone n true v h = (v, refl)
number_to_alone n false v h = absurd (let f : false ≡ true = h in cc)

number_to_before : (n : ℕ) (last : Bool) (ns : List ℕ) → n ≤ greatest → last ≡ false → IsNumbers ns → IsNumbers (n ∷ ns) × (numbers_text (n ∷ ns) ≡ open_text (n, last) ++ numbers_text ns)
number_to_before n true ns v h w = absurd (let f : true ≡ false = h in cc)
number_to_before n false [] v h w = absurd w
number_to_before n false (m ∷ ns) v h w = ((v, w), sym (append_assoc (decimal n) (32 ∷ []) (numbers_text (m ∷ ns))))

pub open_long : (x : ℕ × Bool) → 0 < length (open_text x)
open_long x = omega (arith, length-append (decimal x.0) (closing_byte x.1 ∷ []))

numbers_until : IsUntil number_last number_alone number_before IsOpen open_text IsNumbers numbers_text
numbers_until = record {
  some = (0, true);
  some_is = omega arith;
  some_last = refl;
  long = λ x v. open_long x;
  parts = numbers_parts;
  to_alone = λ x v h. number_to_alone x.0 x.1 v h;
  to_before = λ x others v h w. number_to_before x.0 x.1 others v h w;
}

pub numbers_code : IsCode IsNumbers numbers_text numbers_at
unfolding numbers_at
numbers_code = until_code open_code numbers_until

abbrev pub AreSmall : List ℕ → Type 0
AreSmall ns = AllByRecursion (λ number. number ≤ 10 ^ 18) ns

pub to_small : (ns : List ℕ) → IsNumbers ns → AreSmall ns
to_small [] v = absurd v
to_small (n ∷ []) v = (v, tt)
to_small (n ∷ m ∷ ns) v = (v.0, to_small (m ∷ ns) v.1)

pub from_small : (n : ℕ) (ns : List ℕ) → AreSmall (n ∷ ns) → IsNumbers (n ∷ ns)
from_small n [] v = v.0
from_small n (m ∷ ns) v = (v.0, from_small m ns v.1)

-- a space before each number, and the newline
abbrev pub spaced_text : List ℕ → List ℕ
spaced_text ns = spaced ns ++ 10 ∷ []

some_spaced : (n : ℕ) (ns : List ℕ) → (decimal n ++ spaced ns) ++ 10 ∷ [] ≡ numbers_text (n ∷ ns)
some_spaced n [] = ap (λ (t : List ℕ). t ++ 10 ∷ []) (append-nil (decimal n))
some_spaced n (m ∷ ns) = append_assoc (decimal n) (spaced (m ∷ ns)) (10 ∷ []) ∙ ap (λ (t : List ℕ). decimal n ++ 32 ∷ t) (some_spaced m ns)

abbrev no_numbers : List ℕ → Bool
no_numbers [] = true
no_numbers (n ∷ ns) = false

abbrev AreBehind : Bool → List ℕ → Type 0
AreBehind true ns = ns ≡ []
AreBehind false ns = IsNumbers ns

abbrev behind_text : Bool → List ℕ → List ℕ
behind_text true ns = []
behind_text false ns = numbers_text ns

pub close_letter : IsLetter Always (λ b. written_as closing_byte (true ∷ false ∷ []) b) closing_byte
close_letter = record {
  some = true;
  some_valid = tt;
  again = λ x v. again x;
  from = λ b x e. written_from Always closing_byte (true ∷ false ∷ []) (tt, (tt, tt)) b x e;
}
  where
    again : (x : Bool) → written_as closing_byte (true ∷ false ∷ []) (closing_byte x) ≡ Some x
    again true = refl
    again false = refl

behind_close : (last : Bool) → IsCode (AreBehind last) (behind_text last) (numbers_after last)
behind_close true = IsCode-done []
behind_close false = numbers_code

spaced_down : (ns : List ℕ) → AreSmall ns → Always (no_numbers ns) × AreBehind (no_numbers ns) ns × (spaced_text ns ≡ (closing_byte (no_numbers ns) ∷ []) ++ behind_text (no_numbers ns) ns)
spaced_down [] v = (tt, refl, refl)
spaced_down (n ∷ ns) v = (tt, from_small n ns v, ap (λ (t : List ℕ). 32 ∷ t) (some_spaced n ns))

spaced_up : (last : Bool) (ns : List ℕ) → AreBehind last ns → AreSmall ns × (spaced_text ns ≡ (closing_byte last ∷ []) ++ behind_text last ns)
spaced_up true [] v = (tt, refl)
spaced_up true (n ∷ ns) v = absurd (let e : n ∷ ns ≡ [] = v in cc)
spaced_up false [] v = absurd v
spaced_up false (n ∷ ns) v = (to_small (n ∷ ns) v, ap (λ (t : List ℕ). 32 ∷ t) (some_spaced n ns))

pub spaced_code : IsCode AreSmall spaced_text spaced_at
unfolding spaced_at
spaced_code =
    IsCode-then no_numbers Always (λ x. closing_byte x ∷ []) (char_at (λ b. written_as closing_byte (true ∷ false ∷ []) b)) AreBehind behind_text numbers_after AreSmall spaced_text
    (char_code Always (λ b. written_as closing_byte (true ∷ false ∷ []) b) closing_byte close_letter)
    (λ last u. behind_close last)
    (record { down = λ ns v. spaced_down ns v; up = λ last ns u v. spaced_up last ns v })

-- ---- lines

abbrev pub IsLine : RefutedLine → Type 0
IsLine (StepLine step) = IsStep step
IsLine (BoundLine bound) = IsBoundText bound

abbrev pub line_text : RefutedLine → List ℕ
line_text (StepLine step) = step_text step
line_text (BoundLine bound) = 113 ∷ (codes " " ++ told_text bound)

abbrev tag_of : RefutedLine → LineTag
tag_of (StepLine step) = StepTag step.kind
tag_of (BoundLine bound) = BoundEndTag

abbrev numbers_in : RefutedLine → List ℕ
numbers_in (StepLine step) = step.numbers
numbers_in (BoundLine bound) = []

abbrev bound_in : RefutedLine → Option ℕ
bound_in (StepLine step) = None
bound_in (BoundLine bound) = bound

abbrev with_numbers : StepKind → List ℕ → RefutedLine
with_numbers kind numbers = StepLine (record { kind = kind; numbers = numbers })

abbrev HasTag : LineTag → RefutedLine → Type 0
HasTag (StepTag kind) line = AreSmall (numbers_in line) × (line ≡ with_numbers kind (numbers_in line))
HasTag BoundEndTag line = IsBoundText (bound_in line) × (line ≡ BoundLine (bound_in line))

abbrev tail_text : LineTag → RefutedLine → List ℕ
tail_text (StepTag kind) line = spaced_text (numbers_in line)
tail_text BoundEndTag line = codes " " ++ told_text (bound_in line)

abbrev tag_value : ℕ → Option LineTag
tag_value b = written_as line_byte line_tags b

tag_again : (x : LineTag) → tag_value (line_byte x) ≡ Some x
tag_again (StepTag First) = refl
tag_again (StepTag Last) = refl
tag_again (StepTag Span) = refl
tag_again (StepTag Flips) = refl
tag_again (StepTag Gate) = refl
tag_again (StepTag Table) = refl
tag_again (StepTag Net) = refl
tag_again (StepTag Pairs) = refl
tag_again (StepTag Keep) = refl
tag_again (StepTag Lemma) = refl
tag_again (StepTag End) = refl
tag_again (StepTag Again) = refl
tag_again BoundEndTag = refl

tag_letter : IsLetter Always tag_value line_byte
tag_letter = record {
  some = BoundEndTag;
  some_valid = tt;
  again = λ x v. tag_again x;
  from = λ b x e. written_from Always line_byte line_tags (tt, (tt, (tt, (tt, (tt, (tt, (tt, (tt, (tt, (tt, (tt, (tt, (tt, tt))))))))))))) b x e;
}

tail_code : (tag : LineTag) → IsCode (HasTag tag) (tail_text tag) (behind_line_tag tag)
unfolding behind_line_tag
tail_code (StepTag kind) = mapped_code (with_numbers kind) numbers_in AreSmall spaced_text spaced_at (λ ns. refl) spaced_code
tail_code BoundEndTag =
    behind_word (codes " ") (λ line. HasTag BoundEndTag line) (λ line. told_text (bound_in line)) (λ bytes. number_or_none true bytes >>= λ bound. Ok (BoundLine bound.0, bound.1))
    (mapped_code (λ bound. BoundLine bound) bound_in IsBoundText told_text (number_or_none true) (λ n. refl) bound_code)

line_down : (line : RefutedLine) → IsLine line → Always (tag_of line) × HasTag (tag_of line) line × (line_text line ≡ (line_byte (tag_of line) ∷ []) ++ tail_text (tag_of line) line)
line_down (StepLine step) v = (tt, (v, refl), refl)
line_down (BoundLine bound) v = (tt, (v, refl), refl)

line_up : (tag : LineTag) (line : RefutedLine) → HasTag tag line → IsLine line × (line_text line ≡ (line_byte tag ∷ []) ++ tail_text tag line)
line_up (StepTag kind) (StepLine step) v =
    let same : step.kind ≡ kind = kind_is step (record { kind = kind; numbers = step.numbers }) v.1 in
    (v.0, ap (λ (k : StepKind). kind_byte k ∷ spaced_text step.numbers) same)
  where
    kind_is : (this that : Step) → StepLine this ≡ StepLine that → this.kind ≡ that.kind
    kind_is this that e = cc
line_up (StepTag kind) (BoundLine bound) v = absurd (let e : BoundLine bound ≡ with_numbers kind [] = v.1 in cc)
line_up BoundEndTag (BoundLine bound) v = (v.0, refl)
line_up BoundEndTag (StepLine step) v = absurd (let e : StepLine step ≡ BoundLine None = v.1 in cc)

pub line_code : IsCode IsLine line_text refuted_line_at
unfolding refuted_line_at
line_code =
    IsCode-then tag_of Always (λ x. line_byte x ∷ []) (char_at tag_value) HasTag tail_text behind_line_tag IsLine line_text
    (char_code Always tag_value line_byte tag_letter)
    (λ tag u. tail_code tag)
    (record { down = λ line v. line_down line v; up = λ tag line u v. line_up tag line v })

-- ---- all lines

-- the steps and the line of the bound
abbrev pub refuted_tail : Refuted → List ℕ
refuted_tail refuted = steps_text refuted.steps ++ line_text (BoundLine refuted.bound)

abbrev refuted_of : List Step → Option ℕ → Refuted
refuted_of steps bound = record { steps = steps; bound = bound }

pub step_first : (step : Step) (steps : List Step) (bound : Option ℕ) → refuted_tail (refuted_of (step ∷ steps) bound) ≡ step_text step ++ refuted_tail (refuted_of steps bound)
step_first step steps bound =
    ap (λ (t : List ℕ). t ++ line_text (BoundLine bound)) (flat_map-cons step_text step steps) ∙ append_assoc (step_text step) (steps_text steps) (line_text (BoundLine bound))

refuted_parts : (steps : List Step) (bound : Option ℕ) → IsRefutedText (refuted_of steps bound)
    → Parts is_bound_line bound_alone step_before IsLine line_text IsRefutedText refuted_tail (refuted_of steps bound)
refuted_parts [] bound v = alone (BoundLine bound) v.bound refl refl refl
refuted_parts (step ∷ steps) bound v =
    before (StepLine step) (refuted_of steps bound) v.steps.0 refl (record { steps = v.steps.1; bound = v.bound }) refl (step_first step steps bound)

line_alone : (line : RefutedLine) → IsLine line → is_bound_line line ≡ true → IsRefutedText (bound_alone line) × (refuted_tail (bound_alone line) ≡ line_text line)
line_alone (BoundLine bound) v h = (record { steps = tt; bound = v }, refl)
line_alone (StepLine step) v h = absurd (let f : false ≡ true = h in cc)

line_before : (line : RefutedLine) (others : Refuted) → IsLine line → is_bound_line line ≡ false → IsRefutedText others
    → IsRefutedText (step_before line others) × (refuted_tail (step_before line others) ≡ line_text line ++ refuted_tail others)
line_before (StepLine step) others v h w = (record { steps = (v, w.steps); bound = w.bound }, step_first step others.steps others.bound)
line_before (BoundLine bound) others v h w = absurd (let f : true ≡ false = h in cc)

pub line_long : (line : RefutedLine) → 0 < length (line_text line)
line_long (StepLine step) = omega arith
line_long (BoundLine bound) = omega arith

refuted_until : IsUntil is_bound_line bound_alone step_before IsLine line_text IsRefutedText refuted_tail
refuted_until = record {
  some = BoundLine None;
  some_is = tt;
  some_last = refl;
  long = λ line v. line_long line;
  parts = λ refuted v. refuted_parts refuted.steps refuted.bound v;
  to_alone = λ line v h. line_alone line v h;
  to_before = λ line others v h w. line_before line others v h w;
}

pub refuted_code : IsCode IsRefutedText refuted_tail refuted_at
unfolding refuted_at
refuted_code = until_code line_code refuted_until
