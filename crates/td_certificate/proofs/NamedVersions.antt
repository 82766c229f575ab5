-- A text whose fault is Version has another version's number in its first line.
use Rattle.std.proofs.Common.{◌≡◌, ◌≢◌, ℕ, ◌+◌, ◌-◌, ◌*◌, ◌^◌, ◌<◌, ◌≤◌, Bool, true, false, cond, eqb, leb, List, [], ◌∷◌, ◌++◌, Ok, Err, Some, inl, inr, refl, sym, ap, ◌∙◌, append_assoc, arith}
use Rattle.std.specs.Prelude.{codes, decimal, ◌&&◌, not}
use Rattle.std.specs.Char.{is_ascii_digit}
use Rattle.std.proofs.lemmas.Bool.{eq-eqb, leb-true, and_parts}
use Rattle.td_certificate.specs.declared.certificate.Certificate.{Certificate}
use Rattle.td_certificate.specs.declared.fault.CertFaultKind.TheVariants as kind
use Rattle.td_certificate.specs.declared.fields.Reason.{Reason}
use Rattle.td_certificate.specs.declared.fields.Reason.TheVariants.{Syntax, NumberTooLarge}
use Rattle.td_certificate.specs.declared.fields.Reason.TheVariants as reason
use Rattle.td_certificate.specs.declared.question.Version.{Version}
use Rattle.td_certificate.specs.declared.question.Version.TheVariants.{First, Second, Third, Fourth}
use Rattle.td_certificate.specs.Questions.{version_number}
use Rattle.td_certificate.specs.Spelling.{greatest}
use Rattle.td_certificate.specs.Reading.{Ends, Wrong, Reading, literal, begins_number, front_number, is_version, version_reason, because, digit_at, version_at, lines_at, certificate_at}
use Rattle.td_certificate.specs.Faults.{NoDigit, IsOther, VersionsAreNamed, kind_at, kind_in}
use Rattle.td_certificate.proofs.Loops.{done}
use Rattle.td_certificate.proofs.Codes.{bind_err}
use Rattle.td_certificate.proofs.FieldCodes.{ends, wrong, digit_range, decimal_more, digit_text, literal_code}
use Rattle.td_certificate.proofs.Numbers.{front_grows}
use Rattle.td_certificate.proofs.VectorCodes.{cases}
use Rattle.td_certificate.proofs.Versions.{front_digit}
use Rattle.td_certificate.proofs.PlainReading.{literal_plain, lines_plain}

-- ---- the digits in front are a number's as it is written

record Split (bytes : List ℕ) (number : ℕ) : Type 0 where
  later : List ℕ
  ended : NoDigit later
  parts : bytes ≡ decimal number ++ later

front_stays : (number b : ℕ) (rest : List ℕ) → is_ascii_digit b ≡ false → front_number number (b ∷ rest) ≡ number
unfolding front_number
front_stays number b rest d = rw d refl

front_none : (number : ℕ) → front_number number [] ≡ number
unfolding front_number
front_none number = refl

to_number : (bytes : List ℕ) (this that : ℕ) → this ≡ that → Split bytes that → Split bytes this
to_number bytes this that e s = record { later = s.later; ended = s.ended; parts = s.parts ∙ ap (λ (n : ℕ). decimal n ++ s.later) (sym e) }

split_front : (number : ℕ) (bytes : List ℕ) → 0 < number → front_number number bytes ≤ greatest → Split (decimal number ++ bytes) (front_number number bytes)
split_front number [] pos le = to_number (decimal number ++ []) (front_number number []) number (front_none number) (record { later = []; ended = tt; parts = refl })
split_front number (b ∷ rest) pos le =
    cases (is_ascii_digit b)
    (λ d.
    let r = digit_range b d in
    let next : ℕ = 10 * number + (b - 48) in
    let e : front_number number (b ∷ rest) ≡ front_number next rest = front_digit number b rest d in
    let s = split_front next rest (omega arith) (omega (arith, e, le)) in
    let small : 10 * number + (b - 48) < 2 ^ 64 = omega (arith, e, le, front_grows next rest) in
    to_number (decimal number ++ b ∷ rest) (front_number number (b ∷ rest)) (front_number next rest) e
    (record {
      later = s.later;
      ended = s.ended;
      parts = sym (ap (λ (t : List ℕ). t ++ rest) (decimal_more number b pos r.0 r.1 small) ∙ append_assoc (decimal number) (b ∷ []) rest) ∙ s.parts;
    }))
    (λ d. to_number (decimal number ++ b ∷ rest) (front_number number (b ∷ rest)) number (front_stays number b rest d) (record { later = b ∷ rest; ended = d; parts = refl }))

first_number : (d : ℕ) (rest : List ℕ) → is_ascii_digit d ≡ true → front_number 0 (d ∷ rest) ≡ front_number (d - 48) rest
first_number d rest digit = front_digit 0 d rest digit ∙ ap (λ (k : ℕ). front_number k rest) (omega arith)

-- a first digit that isn't 0, and others
split_some : (d : ℕ) (rest : List ℕ) → is_ascii_digit d ≡ true → 48 < d → front_number 0 (d ∷ rest) ≤ greatest → Split (d ∷ rest) (front_number 0 (d ∷ rest))
split_some d rest digit low le =
    let e = first_number d rest digit in
    let s = split_front (d - 48) rest (omega arith) (omega (arith, e, le)) in
    to_number (d ∷ rest) (front_number 0 (d ∷ rest)) (front_number (d - 48) rest) e
    (record { later = s.later; ended = s.ended; parts = sym (digit_text d rest digit) ∙ s.parts })

-- one digit with no other after it
split_one : (d : ℕ) (rest : List ℕ) → is_ascii_digit d ≡ true → NoDigit rest → Split (d ∷ rest) (front_number 0 (d ∷ rest))
split_one d [] digit none =
    to_number (d ∷ []) (front_number 0 (d ∷ [])) (d - 48) (first_number d [] digit ∙ front_none (d - 48)) (record { later = []; ended = tt; parts = sym (digit_text d [] digit) })
split_one d (b ∷ rest) digit none =
    to_number (d ∷ b ∷ rest) (front_number 0 (d ∷ b ∷ rest)) (d - 48) (first_number d (b ∷ rest) digit ∙ front_stays (d - 48) b rest none)
    (record { later = b ∷ rest; ended = none; parts = sym (digit_text d (b ∷ rest) digit) })

not_both : (p q : Bool) → not (p && q) ≡ true → p ≡ true → q ≡ false
not_both true true e h = absurd cc
not_both true false e h = refl
not_both false q e h = absurd cc

not_true : (p : Bool) → not p ≡ true → p ≡ false
not_true true e = absurd cc
not_true false e = refl

split_begun : (bytes : List ℕ) → begins_number bytes ≡ true → front_number 0 bytes ≤ greatest → Split bytes (front_number 0 bytes)
split_begun [] e le = absurd cc
split_begun (d ∷ []) e le = split_one d [] e tt
split_begun (d ∷ b ∷ rest) e le =
    let p = and_parts (is_ascii_digit d) (not (eqb d 48 && is_ascii_digit b)) e in
    let r = digit_range d p.0 in
    cases (eqb d 48)
    (λ h. split_one d (b ∷ rest) p.0 (not_both (eqb d 48) (is_ascii_digit b) p.1 h))
    (λ h. split_some d (b ∷ rest) p.0 (omega (arith, r.0, ne_of d 48 h)) le)
  where
    ne_of : (x y : ℕ) → eqb x y ≡ false → x ≢ y
    ne_of x y h e = let q : eqb x y ≡ true = eq-eqb x y e in cc

-- ---- what version_reason says

record IsOtherNumber (behind : List ℕ) : Type 0 where
  begins : begins_number behind ≡ true
  other : IsOther (front_number 0 behind)
  within : front_number 0 behind ≤ greatest

reason_by : Bool → Bool → Bool → Reason
reason_by begins known within = cond (begins && not known) (cond within reason.Version NumberTooLarge) Syntax

by_version : (begins known within : Bool) → reason_by begins known within ≡ reason.Version → (begins ≡ true) × (known ≡ false) × (within ≡ true)
unfolding reason_by
by_version true true within e = absurd cc
by_version true false true e = (refl, refl, refl)
by_version true false false e = absurd cc
by_version false known within e = absurd cc

is_a_version : (version : Version) → is_version (version_number version) ≡ true
is_a_version First = refl
is_a_version Second = refl
is_a_version Third = refl
is_a_version Fourth = refl

is_other : (n : ℕ) → is_version n ≡ false → IsOther n
is_other n none version same =
    let known : is_version n ≡ true = ap is_version same ∙ is_a_version version in
    cc

other_of : (behind : List ℕ) → version_reason behind ≡ reason.Version → IsOtherNumber behind
unfolding version_reason reason_by
other_of behind e =
    let p = by_version (begins_number behind) (is_version (front_number 0 behind)) (leb (front_number 0 behind) greatest) e in
    record { begins = p.0; other = is_other (front_number 0 behind) p.1; within = leb-true (front_number 0 behind) greatest p.2 }

-- ---- from the text to its first line

because_reason : {A : Type 0} (why reported : Reason) (read : Reading A) (rest : List ℕ) → because why read ≡ Err (Wrong reported rest) → why ≡ reported
because_reason why reported (Ok y) rest e = absurd (let h : done y ≡ wrong reported rest = e in cc)
because_reason {A} why reported (Err Ends) rest e = absurd (let h : ends {A = A} ≡ wrong reported rest = e in cc)
because_reason {A} why reported (Err (Wrong other this)) rest e = let h : wrong {A = A} why this ≡ wrong reported rest = e in cc

abbrev line_end : Unit {0} × List ℕ → Reading Version
line_end word = because (version_reason word.1) (digit_at word.1)

record Behind (text : List ℕ) : Type 0 where
  behind : List ℕ
  parts : text ≡ codes "tdelay-cert " ++ behind
  reason : version_reason behind ≡ reason.Version

behind_of : (text rest : List ℕ) → version_at text ≡ Err (Wrong reason.Version rest) → Behind text
unfolding version_at
behind_of text rest e =
    elim (bind_err (literal (codes "tdelay-cert ") text) line_end (Wrong reason.Version rest) e) as (λ _. Behind text) [
      | inl here ↦ absurd (literal_plain (codes "tdelay-cert ") text rest here)
      | inr there ↦
          let p = (literal_code (codes "tdelay-cert ")).takes text there.value.0 there.value.1 there.was in
          record { behind = there.value.1; parts = p.1; reason = because_reason (version_reason there.value.1) reason.Version (digit_at there.value.1) rest there.stopped }
    ]

abbrev then_lines : Version × List ℕ → Reading Certificate
then_lines version = lines_at version.0 version.1

first_of : (text rest : List ℕ) → certificate_at text ≡ Err (Wrong reason.Version rest) → version_at text ≡ Err (Wrong reason.Version rest)
unfolding certificate_at
first_of text rest e =
    elim (bind_err (version_at text) then_lines (Wrong reason.Version rest) e) as (λ _. version_at text ≡ Err (Wrong reason.Version rest)) [
      | inl here ↦ here
      | inr there ↦ absurd (lines_plain there.value.0 there.value.1 rest there.stopped)
    ]

wrong_of : (read : Reading Certificate) → kind_at read ≡ Some kind.Version → (rest : List ℕ) × (read ≡ Err (Wrong reason.Version rest))
wrong_of (Ok x) e = absurd cc
wrong_of (Err Ends) e = absurd cc
wrong_of (Err (Wrong Syntax rest)) e = absurd cc
wrong_of (Err (Wrong NumberTooLarge rest)) e = absurd cc
wrong_of (Err (Wrong reason.Version rest)) e = (rest, refl)

certificate_wrong : (text : List ℕ) → kind_in text ≡ Some kind.Version → (rest : List ℕ) × (certificate_at text ≡ Err (Wrong reason.Version rest))
unfolding kind_in
certificate_wrong text e = wrong_of (certificate_at text) e

pub versions_are_named : VersionsAreNamed
versions_are_named text e =
    let w = certificate_wrong text e in
    let b = behind_of text w.0 (first_of text w.0 w.1) in
    let o = other_of b.behind b.reason in
    let s = split_begun b.behind o.begins o.within in
    record { number = front_number 0 b.behind; later = s.later; other = o.other; within = o.within; ended = s.ended; parts = b.parts ∙ ap (λ (t : List ℕ). codes "tdelay-cert " ++ t) s.parts }
