-- The lines of a question are a code, by the version.
use Rattle.std.proofs.Common.{◌≡◌, ◌≢◌, ℕ, zero, suc, ◌-◌, ◌*◌, ◌≤◌, ◌<◌, Bool, true, false, cond, eqb, List, [], ◌∷◌, ◌++◌, length, map, Ok, Option, Some, None, refl, sym, ap, subst, ◌∙◌, append_assoc, arith}
use Rattle.std.specs.Prelude.{codes, replicate, ◌&&◌}
use Rattle.std.specs.List.{list_all}
use Rattle.std.proofs.lemmas.List.{append-nil, nil_from_length}
use Rattle.std.proofs.lemmas.List.Concat.{flat_map-append, flat_map-cons}
use Rattle.std.proofs.lemmas.Bool.{eqb-true, eq-eqb, ne_eqb, and_parts}
use Rattle.td_domain.specs.declared.cubes.Trit.{Trit}
use Rattle.td_domain.specs.declared.cubes.Trit.TheVariants.{Zero, One, Free}
use Rattle.td_domain.specs.Admits.{Admitted, all_pairs}
use Rattle.td_refutation.specs.declared.conditions.NamedCondition.{NamedCondition}
use Rattle.td_certificate.specs.declared.question.Version.{Version}
use Rattle.td_certificate.specs.declared.question.Version.TheVariants.{First, Second, Third, Fourth}
use Rattle.td_certificate.specs.declared.fields.Reason.TheVariants.{Syntax}
use Rattle.td_certificate.specs.Questions.{Terms, Question, inputs_of, is_free, holds_none, admits_all, is_at_once, plain_version, version_by, version_of, all_at_once}
use Rattle.td_domain.specs.Cubes.{weave}
use Rattle.td_certificate.specs.Text.{row, trit, first_trits, second_trits, hold, numbers, conditions}
use Rattle.td_certificate.specs.Spelling.{DefaultField, OutputField, FlipsField, AtField, KeepField, fields_of, terms_or_plain, terms_of, AreConditions, AreTerms, field_line, ended, text_of, question_text}
use Rattle.td_certificate.specs.Reading.{◌>>=◌, literal, number_behind, trit_of, hold_of, row_behind, has_inputs, most_flips, flips_at, with_pins, admit_at, at_line, asked, dated_at, terms_at, with_keep, with_terms, told_at, question_at}
use Rattle.td_certificate.specs.ConditionReading.{kept_at}
use Rattle.td_domain.proofs.Weaving.{weave-length}
use Rattle.td_certificate.proofs.Codes.{IsCode, IsCode-then, IsCode-done}
use Rattle.td_certificate.proofs.FieldCodes.{AtMost, number_text}
use Rattle.td_certificate.proofs.TermCodes.{IsTerms, terms_text, terms_code, terms_lines}
use Rattle.td_certificate.proofs.ConditionCodes.{kept_text, kept_code}
use Rattle.td_certificate.proofs.VectorCodes.{behind_word, number_behind_code, HasLength, trit_letter, hold_letter, row_text, row_behind_code, IsCode-as, mapped_code}
use Rattle.td_certificate.proofs.VersionCode.{because_code}
use Rattle.td_certificate.proofs.MomentCodes.{AreWithin, AreMoments, CanChange, at_text, at_code}

-- ---- woven trits

pub first_woven : (firsts seconds : List Trit) → length firsts ≡ length seconds → first_trits (weave firsts seconds) ≡ firsts
first_woven [] seconds e = refl
first_woven (f ∷ firsts) [] e = absurd (omega (arith, e))
first_woven (f ∷ firsts) (s ∷ seconds) e = ap (λ (trits : List Trit). f ∷ trits) (first_woven firsts seconds (omega (arith, e)))

pub second_woven : (firsts seconds : List Trit) → length firsts ≡ length seconds → second_trits (weave firsts seconds) ≡ seconds
second_woven [] [] e = refl
second_woven [] (s ∷ seconds) e = absurd (omega (arith, e))
second_woven (f ∷ firsts) [] e = absurd (omega (arith, e))
second_woven (f ∷ firsts) (s ∷ seconds) e = ap (λ (trits : List Trit). s ∷ trits) (second_woven firsts seconds (omega (arith, e)))

-- a cube with two positions for each input is woven of its first and second trits
record IsWoven (count : ℕ) (pins : List Trit) : Type 0 where
  woven : weave (first_trits pins) (second_trits pins) ≡ pins
  first : length (first_trits pins) ≡ count
  second : length (second_trits pins) ≡ count

woven : (count : ℕ) (pins : List Trit) → length pins ≡ 2 * count → IsWoven count pins
woven zero [] e = record { woven = refl; first = refl; second = refl }
woven (suc count) [] e = absurd (omega (arith, e))
woven count (p ∷ []) e = absurd (omega (arith, e))
woven zero (p ∷ q ∷ pins) e = absurd (omega (arith, e))
woven (suc count) (p ∷ q ∷ pins) e =
    let rest = woven count pins (omega (arith, e)) in
    record { woven = ap (λ (trits : List Trit). p ∷ q ∷ trits) rest.woven; first = ap suc rest.first; second = ap suc rest.second }

-- ---- the lines `first` to `flips`

-- a line of a word and a row
abbrev pub row_line : {A : Type 0} → List ℕ → (A → ℕ) → List A → List ℕ
row_line word byte xs = word ++ row_text byte xs

most_within : (version : Version) (pins : List Trit) (held : List Bool) → most_flips version pins held ≤ length held
most_within First pins held = omega arith
most_within Third pins held = omega arith
most_within Fourth pins held = omega arith
most_within Second pins held =
    elim (list_all is_free pins && holds_none held) as (λ t. cond t (length held - 1) (length held) ≤ length held) [ true ↦ omega arith | false ↦ omega arith ]

flips_code : (most : ℕ) → most ≤ 4096 → IsCode (AtMost most) (λ n. codes "flips " ++ number_text 10 n) (flips_at most)
unfolding flips_at
flips_code most few =
    because_code (λ bytes. Syntax) (AtMost most) (λ n. codes "flips " ++ number_text 10 n) (number_behind (codes "flips ") most 10)
    (number_behind_code (codes "flips ") most 10 (record { high = omega (arith, few); close_is = refl }))

abbrev text_from_flips : Admitted → List ℕ
text_from_flips a = codes "flips " ++ number_text 10 a.flips

abbrev IsFromFlips : Version → List Trit → List Trit → List Bool → Admitted → Type 0
IsFromFlips v f s h a = (a.flips ≤ most_flips v (weave f s) h) × (a ≡ with_pins f s h a.flips)

from_flips : (v : Version) (f s : List Trit) (h : List Bool) → length h ≤ 4096 → IsCode (IsFromFlips v f s h) text_from_flips
    (λ bytes. flips_at (most_flips v (weave f s) h) bytes >>= λ flips. Ok (with_pins f s h flips.0, flips.1))
from_flips v f s h few =
    mapped_code (with_pins f s h) (λ (a : Admitted). a.flips) (AtMost (most_flips v (weave f s) h)) (λ n. codes "flips " ++ number_text 10 n) (flips_at (most_flips v (weave f s) h)) (λ n. refl)
    (flips_code (most_flips v (weave f s) h) (omega (arith, few, most_within v (weave f s) h)))

abbrev text_from_held : Admitted → List ℕ
text_from_held a = row_line (codes "hold ") hold a.held ++ text_from_flips a

record IsFromHeld (v : Version) (i : ℕ) (f s : List Trit) (a : Admitted) : Type 0 where
  held : length a.held ≡ i
  flips : a.flips ≤ most_flips v (weave f s) a.held
  is : a ≡ with_pins f s a.held a.flips

from_held : (v : Version) (i : ℕ) (f s : List Trit) → i ≤ 4096 → IsCode (IsFromHeld v i f s) text_from_held
    (λ bytes. row_behind (codes "hold ") hold_of i bytes >>= λ held. flips_at (most_flips v (weave f s) held.0) held.1 >>= λ flips. Ok (with_pins f s held.0 flips.0, flips.1))
from_held v i f s few =
    IsCode-then (λ (a : Admitted). a.held) (HasLength i) (row_line (codes "hold ") hold) (row_behind (codes "hold ") hold_of i) (λ h a. IsFromFlips v f s h a) (λ h a. text_from_flips a)
    (λ h bytes. flips_at (most_flips v (weave f s) h) bytes >>= λ flips. Ok (with_pins f s h flips.0, flips.1)) (IsFromHeld v i f s) text_from_held
    (row_behind_code (codes "hold ") hold_of hold hold_letter i)
    (λ h u. from_flips v f s h (omega (arith, few, u)))
    (record {
      down = λ a u. (u.held, (u.flips, u.is), refl);
      up = λ h a u w.
          let p : a.held ≡ h = ap (λ (b : Admitted). b.held) w.1 in (
            record {
              held = ap length p ∙ u;
              flips = subst (λ (m : List Bool). a.flips ≤ most_flips v (weave f s) m) (sym p) w.0;
              is = w.1 ∙ ap (λ (m : List Bool). with_pins f s m a.flips) (sym p);
            },
            ap (λ (m : List Bool). row_line (codes "hold ") hold m ++ text_from_flips a) p,
          );
    })

abbrev text_from_second : Admitted → List ℕ
text_from_second a = row_line (codes "second ") trit (second_trits a.pins) ++ text_from_held a

record IsFromSecond (v : Version) (i : ℕ) (f : List Trit) (a : Admitted) : Type 0 where
  second : length (second_trits a.pins) ≡ i
  held : length a.held ≡ i
  flips : a.flips ≤ most_flips v (weave f (second_trits a.pins)) a.held
  is : a ≡ with_pins f (second_trits a.pins) a.held a.flips

from_second : (v : Version) (i : ℕ) (f : List Trit) → i ≤ 4096 → length f ≡ i → IsCode (IsFromSecond v i f) text_from_second
    (λ bytes. row_behind (codes "second ") trit_of i bytes >>= λ seconds. row_behind (codes "hold ") hold_of i seconds.1 >>= λ held. flips_at (most_flips v (weave f seconds.0) held.0) held.1 >>= λ flips.
    Ok (with_pins f seconds.0 held.0 flips.0, flips.1))
from_second v i f few long =
    IsCode-then (λ (a : Admitted). second_trits a.pins) (HasLength i) (row_line (codes "second ") trit) (row_behind (codes "second ") trit_of i) (λ s a. IsFromHeld v i f s a) (λ s a. text_from_held a)
    (λ s bytes. row_behind (codes "hold ") hold_of i bytes >>= λ held. flips_at (most_flips v (weave f s) held.0) held.1 >>= λ flips. Ok (with_pins f s held.0 flips.0, flips.1)) (IsFromSecond v i f) text_from_second
    (row_behind_code (codes "second ") trit_of trit trit_letter i)
    (λ s u. from_held v i f s few)
    (record {
      down = λ a u. (u.second, record { held = u.held; flips = u.flips; is = u.is }, refl);
      up = λ s a u w.
          let p : second_trits a.pins ≡ s = ap (λ (b : Admitted). second_trits b.pins) w.is ∙ second_woven f s (long ∙ sym u) in (
            record {
              second = ap length p ∙ u;
              held = w.held;
              flips = subst (λ (m : List Trit). a.flips ≤ most_flips v (weave f m) a.held) (sym p) w.flips;
              is = w.is ∙ ap (λ (m : List Trit). with_pins f m a.held a.flips) (sym p);
            },
            ap (λ (m : List Trit). row_line (codes "second ") trit m ++ text_from_held a) p,
          );
    })

abbrev pub admit_text : Admitted → List ℕ
admit_text a = row_line (codes "first ") trit (first_trits a.pins) ++ text_from_second a

record IsFromFirst (v : Version) (i : ℕ) (a : Admitted) : Type 0 where
  first : length (first_trits a.pins) ≡ i
  second : length (second_trits a.pins) ≡ i
  held : length a.held ≡ i
  flips : a.flips ≤ most_flips v (weave (first_trits a.pins) (second_trits a.pins)) a.held
  is : a ≡ with_pins (first_trits a.pins) (second_trits a.pins) a.held a.flips

from_first : (v : Version) (i : ℕ) → i ≤ 4096 → IsCode (IsFromFirst v i) admit_text (admit_at v i)
unfolding admit_at
from_first v i few =
    IsCode-then (λ (a : Admitted). first_trits a.pins) (HasLength i) (row_line (codes "first ") trit) (row_behind (codes "first ") trit_of i) (λ f a. IsFromSecond v i f a) (λ f a. text_from_second a)
    (λ f bytes. row_behind (codes "second ") trit_of i bytes >>= λ seconds. row_behind (codes "hold ") hold_of i seconds.1 >>= λ held. flips_at (most_flips v (weave f seconds.0) held.0) held.1 >>= λ flips.
    Ok (with_pins f seconds.0 held.0 flips.0, flips.1)) (IsFromFirst v i) admit_text
    (row_behind_code (codes "first ") trit_of trit trit_letter i)
    (λ f u. from_second v i f few u)
    (record {
      down = λ a u. (u.first, record { second = u.second; held = u.held; flips = u.flips; is = u.is }, refl);
      up = λ f a u w.
          let p : first_trits a.pins ≡ f = ap (λ (b : Admitted). first_trits b.pins) w.is ∙ first_woven f (second_trits a.pins) (u ∙ sym w.second) in (
            record {
              first = ap length p ∙ u;
              second = w.second;
              held = w.held;
              flips = subst (λ (m : List Trit). a.flips ≤ most_flips v (weave m (second_trits a.pins)) a.held) (sym p) w.flips;
              is = w.is ∙ ap (λ (m : List Trit). with_pins m (second_trits a.pins) a.held a.flips) (sym p);
            },
            ap (λ (m : List Trit). row_line (codes "first ") trit m ++ text_from_second a) p,
          );
    })

-- what the lines `first` to `flips` of a version say, for `i` inputs
pub record IsAdmit (v : Version) (i : ℕ) (a : Admitted) : Type 0 where
  pub pins : length a.pins ≡ 2 * i
  pub held : length a.held ≡ i
  pub flips : a.flips ≤ most_flips v a.pins a.held

to_admit : (v : Version) (i : ℕ) (a : Admitted) → IsFromFirst v i a → IsAdmit v i a
to_admit v i a u =
    let p : a.pins ≡ weave (first_trits a.pins) (second_trits a.pins) = ap (λ (b : Admitted). b.pins) u.is in
    let long = weave-length (first_trits a.pins) (second_trits a.pins) (u.first ∙ sym u.second) in
    record {
      pins = omega (arith, ap length p, long, u.first);
      held = u.held;
      flips = subst (λ (m : List Trit). a.flips ≤ most_flips v m a.held) (sym p) u.flips;
    }

with_these : (a : Admitted) (pins : List Trit) → pins ≡ a.pins → a ≡ record { pins = pins; held = a.held; flips = a.flips }
with_these a pins e = ap (λ (m : List Trit). record { pins = m; held = a.held; flips = a.flips }) (sym e)

from_admit : (v : Version) (i : ℕ) (a : Admitted) → IsAdmit v i a → IsFromFirst v i a
from_admit v i a u =
    let w = woven i a.pins u.pins in
    record {
      first = w.first;
      second = w.second;
      held = u.held;
      flips = subst (λ (m : List Trit). a.flips ≤ most_flips v m a.held) (sym w.woven) u.flips;
      is = with_these a (weave (first_trits a.pins) (second_trits a.pins)) w.woven;
    }

admit_code : (v : Version) (i : ℕ) → i ≤ 4096 → IsCode (IsAdmit v i) admit_text (admit_at v i)
admit_code v i few = IsCode-as (IsFromFirst v i) (IsAdmit v i) admit_text admit_text (admit_at v i) (to_admit v i) (from_admit v i) (λ a u. refl) (from_first v i few)

-- ---- all trits free, no input held, all moments 0

free_again : (count : ℕ) → list_all is_free (replicate count Free) ≡ true
free_again zero = refl
free_again (suc count) = free_again count

free_is : (pins : List Trit) → list_all is_free pins ≡ true → pins ≡ replicate (length pins) Free
free_is [] e = refl
free_is (Free ∷ pins) e = ap (λ (ts : List Trit). Free ∷ ts) (free_is pins e)
free_is (Zero ∷ pins) e = absurd cc
free_is (One ∷ pins) e = absurd cc

none_again : (count : ℕ) → holds_none (replicate count false) ≡ true
none_again zero = refl
none_again (suc count) = none_again count

none_is : (held : List Bool) → holds_none held ≡ true → held ≡ replicate (length held) false
none_is [] e = refl
none_is (false ∷ held) e = ap (λ (hs : List Bool). false ∷ hs) (none_is held e)
none_is (true ∷ held) e = absurd cc

once_again : (count : ℕ) → is_at_once (replicate count 0) ≡ true
once_again zero = refl
once_again (suc count) = once_again count

once_is : (ms : List ℕ) → is_at_once ms ≡ true → ms ≡ replicate (length ms) 0
once_is [] e = refl
once_is (m ∷ ms) e =
    let p = and_parts (eqb m 0) (is_at_once ms) e in
    ap (λ (n : ℕ). n ∷ ms) (eqb-true m 0 p.0) ∙ ap (λ (ns : List ℕ). 0 ∷ ns) (once_is ms p.1)

once_within : (count : ℕ) → AreWithin (replicate count 0)
once_within zero = tt
once_within (suc count) = (omega arith, once_within count)

held_count : (count : ℕ) → length (replicate count false) ≡ count
held_count zero = refl
held_count (suc count) = ap suc (held_count count)

moment_count : (count : ℕ) → length {A = ℕ} (replicate count 0) ≡ count
moment_count zero = refl
moment_count (suc count) = ap suc (moment_count count)

pin_count : (count : ℕ) → length (replicate count Free) ≡ count
pin_count zero = refl
pin_count (suc count) = ap suc (pin_count count)

-- ---- questions

-- what a text of this version can ask, of a circuit with `i` inputs
pub record IsQuestion (v : Version) (i : ℕ) (q : Question) : Type 0 where
  pub version : version_of q ≡ v
  pub inputs : inputs_of q ≡ i
  pub pins : length q.admit.pins ≡ 2 * i
  pub flips : q.admit.flips ≤ i
  pub count : length q.moments ≡ i
  pub moments : AreWithin q.moments
  pub terms : AreTerms q.terms

-- a question without terms, of this version
record IsUntold (v : Version) (q : Question) : Type 0 where
  none : q.terms ≡ None
  plain : plain_version q.admit q.moments ≡ v

untold : (v : Version) (q : Question) → v ≢ Fourth → version_of q ≡ v → IsUntold v q
untold v q other e = by_terms q.terms refl e
  where
    by_terms : (terms : Option Terms) → q.terms ≡ terms → version_by terms q.admit q.moments ≡ v → IsUntold v q
    by_terms None none plain = record { none = none; plain = plain }
    by_terms (Some terms) some is = absurd (other (sym is))

told : (v : Version) (q : Question) → q.terms ≡ None → plain_version q.admit q.moments ≡ v → version_of q ≡ v
told v q none plain = ap (λ (terms : Option Terms). version_by terms q.admit q.moments) none ∙ plain

no_terms : (q : Question) → q.terms ≡ None → AreTerms q.terms
no_terms q none = subst AreTerms (sym none) tt

as_asked : (q : Question) → q.terms ≡ None → q ≡ asked q.admit q.moments
as_asked q none = ap (λ (terms : Option Terms). record { admit = q.admit; moments = q.moments; terms = terms }) none

-- the tests that lead to each version
tests_first : (at_once all : Bool) → cond at_once (cond all First Second) Third ≡ First → (at_once ≡ true) × (all ≡ true)
tests_first true true e = (refl, refl)
tests_first true false e = absurd cc
tests_first false all e = absurd cc

tests_second : (at_once all : Bool) → cond at_once (cond all First Second) Third ≡ Second → (at_once ≡ true) × (all ≡ false)
tests_second true true e = absurd cc
tests_second true false e = (refl, refl)
tests_second false all e = absurd cc

tests_third : (at_once all : Bool) → cond at_once (cond all First Second) Third ≡ Third → at_once ≡ false
tests_third true true e = absurd cc
tests_third true false e = absurd cc
tests_third false all e = refl

to_first : (at_once all : Bool) → at_once ≡ true → all ≡ true → cond at_once (cond all First Second) Third ≡ First
to_first at_once all e f = rw (e, f) refl

to_second : (at_once all : Bool) → at_once ≡ true → all ≡ false → cond at_once (cond all First Second) Third ≡ Second
to_second at_once all e f = rw (e, f) refl

to_third : (at_once all : Bool) → at_once ≡ false → cond at_once (cond all First Second) Third ≡ Third
to_third at_once all e = rw e refl

all_tests : (a b c : Bool) → a ≡ true → b ≡ true → c ≡ true → (a && (b && c)) ≡ true
all_tests a b c e f g = rw (e, f, g) refl

-- a line of a word and the characters after it
line_text : (word chars rest : List ℕ) → ended (word ++ chars) ++ rest ≡ (word ++ (chars ++ codes "\n")) ++ rest
line_text word chars rest = ap (λ (t : List ℕ). t ++ rest) (append_assoc word chars (10 ∷ []))

pub four_text : (a b c d : List ℕ) → text_of (a ∷ b ∷ c ∷ d ∷ []) ≡ ended a ++ (ended b ++ (ended c ++ ended d))
four_text a b c d =
    flat_map-cons ended a (b ∷ c ∷ d ∷ [])
    ∙ ap (λ (t : List ℕ). ended a ++ t) (flat_map-cons ended b (c ∷ d ∷ []) ∙ ap (λ (t : List ℕ). ended b ++ t) (flat_map-cons ended c (d ∷ []) ∙ ap (λ (t : List ℕ). ended c ++ t) (flat_map-cons ended d [] ∙ append-nil (ended d))))

pub second_text : (q : Question) → question_text Second q ≡ admit_text q.admit
second_text q =
    let a = q.admit in
    four_text (codes "first " ++ row trit (first_trits a.pins)) (codes "second " ++ row trit (second_trits a.pins)) (codes "hold " ++ row hold a.held) (field_line q FlipsField)
    ∙ line_text (codes "first ") (row trit (first_trits a.pins)) (ended (codes "second " ++ row trit (second_trits a.pins)) ++ (ended (codes "hold " ++ row hold a.held) ++ ended (field_line q FlipsField)))
    ∙ ap (λ (t : List ℕ). row_line (codes "first ") trit (first_trits a.pins) ++ t)
    (line_text (codes "second ") (row trit (second_trits a.pins)) (ended (codes "hold " ++ row hold a.held) ++ ended (field_line q FlipsField))
    ∙ ap (λ (t : List ℕ). row_line (codes "second ") trit (second_trits a.pins) ++ t) (line_text (codes "hold ") (row hold a.held) (ended (field_line q FlipsField))))

pub third_parts : (q : Question) → question_text Third q ≡ question_text Second q ++ ended (field_line q AtField)
third_parts q =
    flat_map-append ended (map (field_line q) (fields_of Second)) (field_line q AtField ∷ [])
    ∙ ap (λ (t : List ℕ). question_text Second q ++ t) (flat_map-cons ended (field_line q AtField) [] ∙ append-nil (ended (field_line q AtField)))

third_text : (q : Question) → question_text Third q ≡ admit_text q.admit ++ at_text q.moments
third_text q =
    third_parts q ∙ ap (λ (t : List ℕ). t ++ ended (field_line q AtField)) (second_text q)
    ∙ ap (λ (t : List ℕ). admit_text q.admit ++ t) (append_assoc (codes "at ") (numbers q.moments) (10 ∷ []))

-- ---- version 1

these : (pins : List Trit) (held : List Bool) (flips : ℕ) (ms : List ℕ) (i : ℕ) → pins ≡ replicate (2 * i) Free → held ≡ replicate i false → flips ≡ i → ms ≡ replicate i 0
    → asked (record { pins = pins; held = held; flips = flips }) ms ≡ all_at_once i
these pins held flips ms i a b c d =
    ap (λ (x : List Trit). asked (record { pins = x; held = held; flips = flips }) ms) a
    ∙ ap (λ (x : List Bool). asked (record { pins = replicate (2 * i) Free; held = x; flips = flips }) ms) b
    ∙ ap (λ (x : ℕ). asked (record { pins = replicate (2 * i) Free; held = replicate i false; flips = x }) ms) c
    ∙ ap (λ (x : List ℕ). asked (all_pairs i) x) d

all_is : (i : ℕ) → IsQuestion First i (all_at_once i)
all_is i = record {
  version =
      to_first (is_at_once (replicate i 0)) (admits_all (all_pairs i)) (once_again i)
      (all_tests (list_all is_free (replicate (2 * i) Free)) (holds_none (replicate i false)) (eqb i (length (replicate i false))) (free_again (2 * i)) (none_again i) (eq-eqb i (length (replicate i false)) (sym (held_count i))));
  inputs = held_count i;
  pins = pin_count (2 * i);
  flips = omega arith;
  count = moment_count i;
  moments = once_within i;
  terms = tt;
}

to_all : (i : ℕ) (q : Question) → IsQuestion First i q → q ≡ all_at_once i
to_all i q v =
    let u = untold First q (λ e. cc) v.version in
    let t = tests_first (is_at_once q.moments) (admits_all q.admit) u.plain in
    let free = and_parts (list_all is_free q.admit.pins) (holds_none q.admit.held && eqb q.admit.flips (length q.admit.held)) t.1 in
    let none = and_parts (holds_none q.admit.held) (eqb q.admit.flips (length q.admit.held)) free.1 in
    as_asked q u.none
    ∙ these q.admit.pins q.admit.held q.admit.flips q.moments i
    (free_is q.admit.pins free.0 ∙ ap (λ (n : ℕ). replicate n Free) v.pins)
    (none_is q.admit.held none.0 ∙ ap (λ (n : ℕ). replicate n false) v.inputs)
    (eqb-true q.admit.flips (length q.admit.held) none.1 ∙ v.inputs)
    (once_is q.moments t.0 ∙ ap (λ (n : ℕ). replicate n 0) v.count)

first_code : (i : ℕ) → IsCode (IsQuestion First i) (question_text First) (question_at First i)
unfolding question_at
first_code i =
    IsCode-as (λ q. q ≡ all_at_once i) (IsQuestion First i) (λ q. []) (question_text First) (question_at First i)
    (λ q e. subst (IsQuestion First i) (sym e) (all_is i)) (to_all i) (λ q e. refl)
    (IsCode-done (all_at_once i))

-- ---- version 2

-- where all is free and none held, the flips are fewer than the inputs
few_flips : (free none : Bool) (flips count : ℕ) → flips ≤ cond (free && none) (count - 1) count → 0 < count → (free && (none && eqb flips count)) ≡ false
few_flips true true flips count le some = ne_eqb flips count (omega (arith, le, some))
few_flips true false flips count le some = refl
few_flips false none flips count le some = refl

most_few : (free none : Bool) (flips count : ℕ) → (free && (none && eqb flips count)) ≡ false → flips ≤ count → flips ≤ cond (free && none) (count - 1) count
most_few true true flips count e le = let other : flips ≢ count = (λ same. let h : eqb flips count ≡ true = eq-eqb flips count same in cc) in omega (arith, le, other)
most_few true false flips count e le = le
most_few false none flips count e le = le

abbrev IsSecond : ℕ → Question → Type 0
IsSecond i q = IsAdmit Second i q.admit × (q ≡ asked q.admit (replicate i 0))

to_second_question : (i : ℕ) → 0 < i → (q : Question) → IsSecond i q → IsQuestion Second i q
to_second_question i some q v =
    let ms : q.moments ≡ replicate i 0 = ap (λ (p : Question). p.moments) v.1 in
    let none : q.terms ≡ None = ap (λ (p : Question). p.terms) v.1 in
    record {
      version =
          told Second q none
          (to_second (is_at_once q.moments) (admits_all q.admit) (ap is_at_once ms ∙ once_again i)
          (few_flips (list_all is_free q.admit.pins) (holds_none q.admit.held) q.admit.flips (length q.admit.held) v.0.flips (omega (arith, some, v.0.held))));
      inputs = v.0.held;
      pins = v.0.pins;
      flips = omega (arith, v.0.flips, most_within Second q.admit.pins q.admit.held, v.0.held);
      count = ap length ms ∙ moment_count i;
      moments = subst AreWithin (sym ms) (once_within i);
      terms = no_terms q none;
    }

from_second_question : (i : ℕ) (q : Question) → IsQuestion Second i q → IsSecond i q
from_second_question i q v =
    let u = untold Second q (λ e. cc) v.version in
    let t = tests_second (is_at_once q.moments) (admits_all q.admit) u.plain in
    let ms : q.moments ≡ replicate i 0 = once_is q.moments t.0 ∙ ap (λ (n : ℕ). replicate n 0) v.count in (
      record {
        pins = v.pins;
        held = v.inputs;
        flips = most_few (list_all is_free q.admit.pins) (holds_none q.admit.held) q.admit.flips (length q.admit.held) t.1 (omega (arith, v.flips, v.inputs));
      },
      as_asked q u.none ∙ ap (λ (m : List ℕ). asked q.admit m) ms,
    )

second_code : (i : ℕ) → 0 < i → i ≤ 4096 → IsCode (IsQuestion Second i) (question_text Second) (question_at Second i)
unfolding question_at
second_code i some few =
    IsCode-as (IsSecond i) (IsQuestion Second i) (λ q. admit_text q.admit) (question_text Second) (question_at Second i)
    (to_second_question i some) (from_second_question i) (λ q v. second_text q)
    (mapped_code (λ a. asked a (replicate i 0)) (λ (q : Question). q.admit) (IsAdmit Second i) admit_text (admit_at Second i) (λ a. refl) (admit_code Second i few))

-- ---- versions 3 and 4

record IsDated (v : Version) (later : Bool) (i : ℕ) (q : Question) : Type 0 where
  admit : IsAdmit v i q.admit
  moments : AreMoments later i q.moments
  none : q.terms ≡ None

from_at : (later : Bool) (i : ℕ) → CanChange later i → (a : Admitted) → IsCode (λ q. AreMoments later i q.moments × (q ≡ asked a q.moments)) (λ q. at_text q.moments)
    (λ bytes. at_line later i bytes >>= λ moments. Ok (asked a moments.0, moments.1))
from_at later i can a = mapped_code (asked a) (λ (q : Question). q.moments) (AreMoments later i) at_text (at_line later i) (λ ms. refl) (at_code later i can)

dated_code : (v : Version) (later : Bool) (i : ℕ) → CanChange later i → i ≤ 4096 → IsCode (IsDated v later i) (λ q. admit_text q.admit ++ at_text q.moments) (dated_at v later i)
unfolding dated_at
dated_code v later i can few =
    IsCode-then (λ (q : Question). q.admit) (IsAdmit v i) admit_text (admit_at v i) (λ a q. AreMoments later i q.moments × (q ≡ asked a q.moments)) (λ a q. at_text q.moments)
    (λ a bytes. at_line later i bytes >>= λ moments. Ok (asked a moments.0, moments.1)) (IsDated v later i) (λ q. admit_text q.admit ++ at_text q.moments)
    (admit_code v i few)
    (λ a u. from_at later i can a)
    (record {
      down = λ q u. (u.admit, (u.moments, as_asked q u.none), refl);
      up = λ a q u w.
          let p : q.admit ≡ a = ap (λ (r : Question). r.admit) w.1 in
          (record { admit = subst (IsAdmit v i) (sym p) u; moments = w.0; none = ap (λ (r : Question). r.terms) w.1 }, ap (λ (b : Admitted). admit_text b ++ at_text q.moments) p);
    })

to_third_question : (i : ℕ) (q : Question) → IsDated Third true i q → IsQuestion Third i q
to_third_question i q v = record {
  version = told Third q v.none (to_third (is_at_once q.moments) (admits_all q.admit) v.moments.later);
  inputs = v.admit.held;
  pins = v.admit.pins;
  flips = omega (arith, v.admit.flips, v.admit.held);
  count = v.moments.long;
  moments = v.moments.within;
  terms = no_terms q v.none;
}

from_third_question : (i : ℕ) (q : Question) → IsQuestion Third i q → IsDated Third true i q
from_third_question i q v =
    let u = untold Third q (λ e. cc) v.version in
    record {
      admit = record { pins = v.pins; held = v.inputs; flips = omega (arith, v.flips, v.inputs) };
      moments = record { long = v.count; within = v.moments; later = tests_third (is_at_once q.moments) (admits_all q.admit) u.plain };
      none = u.none;
    }

third_code : (i : ℕ) → 0 < i → i ≤ 4096 → IsCode (IsQuestion Third i) (question_text Third) (question_at Third i)
unfolding question_at
third_code i some few =
    IsCode-as (IsDated Third true i) (IsQuestion Third i) (λ q. admit_text q.admit ++ at_text q.moments) (question_text Third) (question_at Third i)
    (to_third_question i) (from_third_question i) (λ q v. third_text q)
    (dated_code Third true i (λ e. some) few)

-- the same question without its terms
abbrev bare : Question → Question
bare q = asked q.admit q.moments

-- the terms without the conditions
abbrev free_terms : Question → Terms
free_terms q = with_keep [] (terms_of q)

abbrev dated_text : Question → List ℕ
dated_text q = admit_text q.admit ++ at_text q.moments

-- the question with these terms and conditions
abbrev whole : Terms → List NamedCondition → Question → Question
whole terms keep p = with_terms (with_keep keep terms) p

abbrev keep_in : Question → List NamedCondition
keep_in q = (terms_of q).keep

abbrev keep_text : Question → List ℕ
keep_text q = codes "keep " ++ kept_text (keep_in q)

abbrev IsBehindDated : Terms → Question → Question → Type 0
IsBehindDated terms p q = AreConditions (keep_in q) × (q ≡ whole terms (keep_in q) p)

behind_dated : (terms : Terms) (p : Question) → IsCode (IsBehindDated terms p) keep_text
    (λ bytes. literal (codes "keep ") bytes >>= λ word. kept_at word.1 >>= λ keep. Ok (whole terms keep.0 p, keep.1))
behind_dated terms p =
    behind_word (codes "keep ") (IsBehindDated terms p) (λ q. kept_text (keep_in q)) (λ bytes. kept_at bytes >>= λ keep. Ok (whole terms keep.0 p, keep.1))
    (mapped_code (λ (keep : List NamedCondition). whole terms keep p) keep_in AreConditions kept_text kept_at (λ keep. refl) kept_code)

abbrev IsBehindTerms : ℕ → Terms → Question → Type 0
IsBehindTerms i terms q = IsDated Fourth false i (bare q) × AreConditions (keep_in q) × (q ≡ whole terms (keep_in q) (bare q))

behind_terms : (i : ℕ) → i ≤ 4096 → (terms : Terms) → IsCode (IsBehindTerms i terms) (λ q. dated_text q ++ keep_text q)
    (λ bytes. dated_at Fourth false i bytes >>= λ question. literal (codes "keep ") question.1 >>= λ word. kept_at word.1 >>= λ keep. Ok (whole terms keep.0 question.0, keep.1))
behind_terms i few terms =
    IsCode-then bare (IsDated Fourth false i) dated_text (dated_at Fourth false i) (IsBehindDated terms) (λ p q. keep_text q)
    (λ p bytes. literal (codes "keep ") bytes >>= λ word. kept_at word.1 >>= λ keep. Ok (whole terms keep.0 p, keep.1)) (IsBehindTerms i terms) (λ q. dated_text q ++ keep_text q)
    (dated_code Fourth false i (λ e. absurd cc) few)
    (λ p u. behind_dated terms p)
    (record {
      down = λ q u. (u.0, (u.1, u.2), refl);
      up = λ p q u w.
          let none : bare q ≡ p = ap bare w.1 ∙ sym (as_asked p u.none) in (
            (subst (IsDated Fourth false i) (sym none) u, w.0, w.1 ∙ ap (whole terms (keep_in q)) (sym none)),
            ap (λ (r : Question). dated_text r ++ keep_text q) none,
          );
    })

abbrev told_text : Question → List ℕ
told_text q = terms_text (free_terms q) ++ (dated_text q ++ keep_text q)

record IsTold (i : ℕ) (q : Question) : Type 0 where
  terms : IsTerms (free_terms q)
  dated : IsDated Fourth false i (bare q)
  keep : AreConditions (keep_in q)
  some : q ≡ with_terms (terms_of q) (bare q)

-- the terms that a text was read with, but for the conditions
terms_back : (terms : Terms) (q : Question) → IsTerms terms → q ≡ whole terms (keep_in q) (bare q) → free_terms q ≡ terms
terms_back terms q are is =
    ap (λ (r : Question). with_keep [] (terms_of r)) is ∙ sym (ap (λ (keep : List NamedCondition). with_keep keep terms) are.2)

told_code : (i : ℕ) → i ≤ 4096 → IsCode (IsTold i) told_text (told_at i)
unfolding told_at
told_code i few =
    IsCode-then free_terms IsTerms terms_text terms_at (IsBehindTerms i) (λ terms q. dated_text q ++ keep_text q)
    (λ terms bytes. dated_at Fourth false i bytes >>= λ question. literal (codes "keep ") question.1 >>= λ word. kept_at word.1 >>= λ keep. Ok (whole terms keep.0 question.0, keep.1))
    (IsTold i) told_text terms_code
    (λ terms u. behind_terms i few terms)
    (record {
      down = λ q u. (u.terms, (u.dated, u.keep, u.some), refl);
      up = λ terms q u w.
          let p : free_terms q ≡ terms = terms_back terms q u w.2 in (
            record {
              terms = subst IsTerms (sym p) u;
              dated = w.0;
              keep = w.1;
              some = w.2 ∙ ap (λ (t : Terms). with_terms t (bare q)) (sym (ap terms_of w.2));
            },
            ap (λ (t : Terms). terms_text t ++ (dated_text q ++ keep_text q)) p,
          );
    })

pub fourth_parts : (q : Question) → question_text Fourth q ≡ (ended (field_line q DefaultField) ++ ended (field_line q OutputField)) ++ (question_text Third q ++ ended (field_line q KeepField))
fourth_parts q =
    let lines = map (field_line q) (fields_of Third) in
    flat_map-cons ended (field_line q DefaultField) (field_line q OutputField ∷ (lines ++ field_line q KeepField ∷ []))
    ∙ ap (λ (t : List ℕ). ended (field_line q DefaultField) ++ t)
    (flat_map-cons ended (field_line q OutputField) (lines ++ field_line q KeepField ∷ [])
    ∙ ap (λ (t : List ℕ). ended (field_line q OutputField) ++ t)
    (flat_map-append ended lines (field_line q KeepField ∷ [])
    ∙ ap (λ (t : List ℕ). question_text Third q ++ t) (flat_map-cons ended (field_line q KeepField) [] ∙ append-nil (ended (field_line q KeepField)))))
    ∙ sym (append_assoc (ended (field_line q DefaultField)) (ended (field_line q OutputField)) (question_text Third q ++ ended (field_line q KeepField)))

pub fourth_text : (q : Question) → question_text Fourth q ≡ told_text q
fourth_text q =
    fourth_parts q ∙ ap (λ (t : List ℕ). t ++ (question_text Third q ++ ended (field_line q KeepField))) (terms_lines (terms_of q))
    ∙ ap (λ (t : List ℕ). terms_text (terms_of q) ++ (t ++ ended (field_line q KeepField))) (third_text q)
    ∙ ap (λ (t : List ℕ). terms_text (terms_of q) ++ (dated_text q ++ t)) (append_assoc (codes "keep ") (conditions (keep_in q)) (codes "\n"))

to_fourth_question : (i : ℕ) (q : Question) → IsTold i q → IsQuestion Fourth i q
to_fourth_question i q v =
    let some : q.terms ≡ Some (terms_of q) = ap (λ (p : Question). p.terms) v.some in
    record {
      version = ap (λ (terms : Option Terms). version_by terms q.admit q.moments) some;
      inputs = v.dated.admit.held;
      pins = v.dated.admit.pins;
      flips = omega (arith, v.dated.admit.flips, v.dated.admit.held);
      count = v.dated.moments.long;
      moments = v.dated.moments.within;
      terms = subst AreTerms (sym some) (v.terms.0, v.terms.1, v.keep);
    }

-- a question of the fourth version has terms
plain_early : (admit : Admitted) (moments : List ℕ) → plain_version admit moments ≢ Fourth
plain_early admit moments e = by_tests (is_at_once moments) (admits_all admit) e
  where
    by_tests : (once all : Bool) → cond once (cond all First Second) Third ≡ Fourth → ⊥
    by_tests true true e = cc
    by_tests true false e = cc
    by_tests false all e = cc

from_fourth_question : (i : ℕ) (q : Question) → IsQuestion Fourth i q → IsTold i q
from_fourth_question i q v = by_terms q.terms refl v.version v.terms
  where
    by_terms : (terms : Option Terms) → q.terms ≡ terms → version_by terms q.admit q.moments ≡ Fourth → AreTerms terms → IsTold i q
    by_terms None none is are = absurd (plain_early q.admit q.moments is)
    by_terms (Some terms) some is are =
        let p : terms_of q ≡ terms = ap terms_or_plain some in
        record {
          terms = subst (λ (t : Terms). IsTerms (with_keep [] t)) (sym p) (are.0, are.1, refl);
          dated = record {
            admit = record { pins = v.pins; held = v.inputs; flips = omega (arith, v.flips, v.inputs) };
            moments = record { long = v.count; within = v.moments; later = refl };
            none = refl;
          };
          keep = subst (λ (t : Terms). AreConditions t.keep) (sym p) are.2;
          some =
              ap (λ (t : Option Terms). record { admit = q.admit; moments = q.moments; terms = t }) some
              ∙ ap (λ (t : Terms). with_terms t (bare q)) (sym p);
        }

fourth_code : (i : ℕ) → i ≤ 4096 → IsCode (IsQuestion Fourth i) (question_text Fourth) (question_at Fourth i)
unfolding question_at
fourth_code i few =
    IsCode-as (IsTold i) (IsQuestion Fourth i) told_text (question_text Fourth) (question_at Fourth i)
    (to_fourth_question i) (from_fourth_question i) (λ q v. fourth_text q)
    (told_code i few)

pub question_code : (v : Version) (i : ℕ) → (has_inputs v ≡ true → 0 < i) → i ≤ 4096 → IsCode (IsQuestion v i) (question_text v) (question_at v i)
question_code First i some few = first_code i
question_code Second i some few = second_code i (some refl) few
question_code Third i some few = third_code i (some refl) few
question_code Fourth i some few = fourth_code i few

-- without inputs and terms the version is the first
none_first : (q : Question) → length q.admit.pins ≡ 2 * inputs_of q → q.admit.flips ≤ inputs_of q → length q.moments ≡ inputs_of q → inputs_of q ≡ 0
    → plain_version q.admit q.moments ≡ First
none_first q pins flips count none =
    let a : q.admit.pins ≡ [] = nil_from_length q.admit.pins (omega (arith, pins, none)) in
    let b : q.admit.held ≡ [] = nil_from_length q.admit.held none in
    let c : q.moments ≡ [] = nil_from_length q.moments (count ∙ none) in
    to_first (is_at_once q.moments) (admits_all q.admit) (ap is_at_once c)
    (all_tests (list_all is_free q.admit.pins) (holds_none q.admit.held) (eqb q.admit.flips (length q.admit.held)) (ap (list_all is_free) a) (ap holds_none b)
    (eq-eqb q.admit.flips (length q.admit.held) (omega (arith, flips, none))))

zero_or_some : {X : Type 0} (n : ℕ) → (n ≡ 0 → X) → (0 < n → X) → X
zero_or_some zero f g = f refl
zero_or_some (suc n) f g = g (omega arith)

no_version : {X : Type 0} (v : Version) (q : Question) → has_inputs v ≡ true → version_of q ≡ v → plain_version q.admit q.moments ≡ First → X
no_version First q some is e = absurd cc
no_version Second q some is e = absurd (let h : First ≡ Second = sym e ∙ (untold Second q (λ f. cc) is).plain in cc)
no_version Third q some is e = absurd (let h : First ≡ Third = sym e ∙ (untold Third q (λ f. cc) is).plain in cc)
no_version Fourth q some is e = absurd cc

pub some_inputs_of : (v : Version) (q : Question) → length q.admit.pins ≡ 2 * inputs_of q → q.admit.flips ≤ inputs_of q → length q.moments ≡ inputs_of q
    → version_of q ≡ v → has_inputs v ≡ true → 0 < inputs_of q
some_inputs_of v q pins flips count is some =
    zero_or_some (inputs_of q) (λ none. no_version v q some is (none_first q pins flips count none)) (λ some. some)
