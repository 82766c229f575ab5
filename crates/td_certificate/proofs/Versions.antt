-- The number of another version, as it is written in the first line.
use Rattle.std.proofs.Common.{◌≡◌, ℕ, ◌+◌, ◌-◌, ◌*◌, ◌/◌, ◌%◌, ◌^◌, ◌<◌, ◌≤◌, Bool, true, false, cond, eqb, leb, List, [], ◌∷◌, ◌++◌, Option, Ok, Err, Some, None, refl, ap, ◌∙◌, append_assoc, arith}
use Rattle.std.specs.Prelude.{codes, decimal}
use Rattle.std.specs.Char.{is_ascii_digit}
use Rattle.std.proofs.lemmas.Bool.{ne_eqb}
use Rattle.std.proofs.lemmas.Fmt.{decimal_by_steps_wide}
use Rattle.td_certificate.specs.declared.fault.CertFaultKind.{CertFaultKind}
use Rattle.td_certificate.specs.declared.fault.CertFaultKind.TheVariants as kind
use Rattle.td_certificate.specs.declared.fields.Reason.{Reason}
use Rattle.td_certificate.specs.declared.fields.Reason.TheVariants.{Syntax, NumberTooLarge}
use Rattle.td_certificate.specs.declared.fields.Reason.TheVariants as reason
use Rattle.td_certificate.specs.declared.question.Version.{Version}
use Rattle.td_certificate.specs.declared.question.Version.TheVariants.{First, Second, Third, Fourth}
use Rattle.td_certificate.specs.Spelling.{greatest}
use Rattle.td_certificate.specs.Reading.{Wrong, Reading, ◌>>=◌, literal, taken, begins_number, front_number, is_version, version_reason, because, version_of_digit, digit_at, version_at, certificate_at}
use Rattle.td_certificate.specs.Faults.{NoDigit, IsOther, VersionsAreReported, kind_of, kind_in}
use Rattle.td_certificate.proofs.FieldCodes.{range_digit, digit_range, literal_code}
use Rattle.td_certificate.proofs.VectorCodes.{cases, option_cases}

-- the digits of a number: one, or a first that isn't 0 and a second
data Shape (n : ℕ) (ds : List ℕ) : Type 0 where
  one : n < 10 → ds ≡ (48 + n) ∷ [] → Shape n ds
  more : 10 ≤ n → (d e : ℕ) (es : List ℕ) → ds ≡ d ∷ e ∷ es → 48 < d → d ≤ 57 → is_ascii_digit e ≡ true → Shape n ds

record IsWritten (n : ℕ) (ds : List ℕ) : Type 0 where
  shape : Shape n ds
  front : (later : List ℕ) → front_number 0 (ds ++ later) ≡ front_number n later

pub front_digit : (number b : ℕ) (rest : List ℕ) → is_ascii_digit b ≡ true → front_number number (b ∷ rest) ≡ front_number (10 * number + (b - 48)) rest
unfolding front_number
front_digit number b rest d = rw d refl

written_one : (n : ℕ) → n < 10 → IsWritten n ((48 + n) ∷ [])
written_one n lt = record {
  shape = one lt refl;
  front = λ later.
      front_digit 0 (48 + n) later (range_digit (48 + n) (omega arith) (omega arith)) ∙ ap (λ (k : ℕ). front_number k later) (omega arith);
}

shape_more : (n : ℕ) (ds : List ℕ) → 10 ≤ n → Shape (n / 10) ds → Shape n (ds ++ (48 + n % 10) ∷ [])
shape_more n ds le (one lt is) =
    more le (48 + n / 10) (48 + n % 10) [] (ap (λ (t : List ℕ). t ++ (48 + n % 10) ∷ []) is) (omega arith) (omega arith) (range_digit (48 + n % 10) (omega arith) (omega arith))
shape_more n ds le (more _ d e es is low high digit) =
    more le d e (es ++ (48 + n % 10) ∷ []) (ap (λ (t : List ℕ). t ++ (48 + n % 10) ∷ []) is) low high digit

written_more : (n : ℕ) (ds : List ℕ) → 10 ≤ n → IsWritten (n / 10) ds → IsWritten n (ds ++ ((48 + n % 10) ∷ []))
written_more n ds le before = record {
  shape = shape_more n ds le before.shape;
  front = λ later.
      let q : 10 * (n / 10) + (48 + n % 10 - 48) ≡ n = omega arith in
      ap (front_number 0) (append_assoc ds ((48 + n % 10) ∷ []) later) ∙ before.front ((48 + n % 10) ∷ later)
      ∙ front_digit (n / 10) (48 + n % 10) later (range_digit (48 + n % 10) (omega arith) (omega arith)) ∙ ap (λ (k : ℕ). front_number k later) q;
}

written : (n : ℕ) → n < 10 ^ 64 → IsWritten n (decimal n)
written n small = decimal_by_steps_wide IsWritten written_one written_more n small

front_ended : (n : ℕ) (later : List ℕ) → NoDigit later → front_number n later ≡ n
unfolding front_number
front_ended n [] none = refl
front_ended n (b ∷ rest) none = rw none refl

one_begins : (d : ℕ) (later : List ℕ) → is_ascii_digit d ≡ true → NoDigit later → begins_number (d ∷ later) ≡ true
one_begins d [] digit none = digit
one_begins d (b ∷ rest) digit none = cases (eqb d 48) (λ h. rw (digit, none, h) refl) (λ h. rw (digit, none, h) refl)

more_begin : (d e : ℕ) (rest : List ℕ) → 48 < d → d ≤ 57 → begins_number (d ∷ e ∷ rest) ≡ true
more_begin d e rest low high = rw (range_digit d (omega arith) high, ne_eqb d 48 (omega arith)) refl

shape_begins : (n : ℕ) (ds later : List ℕ) → Shape n ds → NoDigit later → begins_number (ds ++ later) ≡ true
shape_begins n ds later (one lt is) none = ap (λ (t : List ℕ). begins_number (t ++ later)) is ∙ one_begins (48 + n) later (range_digit (48 + n) (omega arith) (omega arith)) none
shape_begins n ds later (more _ d e es is low high digit) none = ap (λ (t : List ℕ). begins_number (t ++ later)) is ∙ more_begin d e (es ++ later) low high

not_version : (n : ℕ) → IsOther n → is_version n ≡ false
not_version n other = rw (ne_eqb n 1 (other First), ne_eqb n 2 (other Second), ne_eqb n 3 (other Third), ne_eqb n 4 (other Fourth)) refl

reason_at : (n : ℕ) (behind : List ℕ) → IsOther n → begins_number behind ≡ true → front_number 0 behind ≡ n → version_reason behind ≡ cond (leb n greatest) reason.Version NumberTooLarge
unfolding version_reason
reason_at n behind other begins number = rw (begins, number, not_version n other) refl

reason_written : (n : ℕ) (later : List ℕ) → IsOther n → n < 10 ^ 64 → NoDigit later → version_reason (decimal n ++ later) ≡ cond (leb n greatest) reason.Version NumberTooLarge
reason_written n later other small none =
    let w = written n small in
    reason_at n (decimal n ++ later) other (shape_begins n (decimal n) later w.shape none) (w.front later ∙ front_ended n later none)

-- ---- where no version's digit stands, or more than the digit

abbrev Stops : List ℕ → Type 0
Stops behind = (rest : List ℕ) × (digit_at behind ≡ Err (Wrong Syntax rest))

abbrev behind_digit : Version × List ℕ → Reading Version
behind_digit version = literal (codes "\n") version.1 >>= λ end. Ok (version.0, end.1)

first_differs : (d : ℕ) (rest : List ℕ) → version_of_digit d ≡ None → Stops (d ∷ rest)
unfolding digit_at
first_differs d rest none = (d ∷ rest, ap (λ (o : Option Version). taken o d rest >>= behind_digit) none)

second_differs : (d e : ℕ) (rest : List ℕ) (version : Version) → version_of_digit d ≡ Some version → is_ascii_digit e ≡ true → Stops (d ∷ e ∷ rest)
unfolding digit_at literal
second_differs d e rest version is digit =
    let r = digit_range e digit in
    let end : literal (codes "\n") (e ∷ rest) ≡ Err (Wrong Syntax (e ∷ rest)) = rw (ne_eqb e 10 (omega (arith, r.0))) refl in
    (e ∷ rest, ap (λ (o : Option Version). taken o d (e ∷ rest) >>= behind_digit) is ∙ ap (λ (r : Reading (Unit {0})). r >>= λ end. Ok (version, end.1)) end)

digits_differ : (d e : ℕ) (rest : List ℕ) → is_ascii_digit e ≡ true → Stops (d ∷ e ∷ rest)
digits_differ d e rest digit =
    option_cases (version_of_digit d) (λ none. first_differs d (e ∷ rest) none) (λ version is. second_differs d e rest version is digit)

other_digit : (n : ℕ) → IsOther n → version_of_digit (48 + n) ≡ None
other_digit n other =
    rw (
      ne_eqb (48 + n) 49 (λ e. other First (omega (arith, e))),
      ne_eqb (48 + n) 50 (λ e. other Second (omega (arith, e))),
      ne_eqb (48 + n) 51 (λ e. other Third (omega (arith, e))),
      ne_eqb (48 + n) 52 (λ e. other Fourth (omega (arith, e))),
    ) refl

shape_stops : (n : ℕ) (ds later : List ℕ) → IsOther n → Shape n ds → Stops (ds ++ later)
shape_stops n ds later other (one lt is) =
    let s = first_differs (48 + n) later (other_digit n other) in
    (s.0, ap (λ (t : List ℕ). digit_at (t ++ later)) is ∙ s.1)
shape_stops n ds later other (more _ d e es is low high digit) =
    let s = digits_differ d e (es ++ later) digit in
    (s.0, ap (λ (t : List ℕ). digit_at (t ++ later)) is ∙ s.1)

version_stops : (behind rest : List ℕ) → digit_at behind ≡ Err (Wrong Syntax rest) → version_at (codes "tdelay-cert " ++ behind) ≡ Err (Wrong (version_reason behind) rest)
unfolding version_at
version_stops behind rest e =
    ap (λ (r : Reading (Unit {0})). r >>= λ word. because (version_reason word.1) (digit_at word.1)) ((literal_code (codes "tdelay-cert ")).again tt behind tt)
    ∙ ap (λ (r : Reading Version). because (version_reason behind) r) e

kind_first : (bytes rest : List ℕ) (why : Reason) → version_at bytes ≡ Err (Wrong why rest) → kind_in bytes ≡ Some (kind_of why)
unfolding kind_in certificate_at
kind_first bytes rest why e = rw e refl

kind_either : (within : Bool) → kind_of (cond within reason.Version NumberTooLarge) ≡ cond within kind.Version kind.NumberTooLarge
kind_either true = refl
kind_either false = refl

pub versions_are_reported : VersionsAreReported
versions_are_reported n later other small none =
    let w = written n small in
    let s = shape_stops n (decimal n) later other w.shape in
    kind_first (codes "tdelay-cert " ++ decimal n ++ later) s.0 (version_reason (decimal n ++ later)) (version_stops (decimal n ++ later) s.0 s.1)
    ∙ ap (λ (k : CertFaultKind). Some k) (ap kind_of (reason_written n later other small none) ∙ kind_either (leb n greatest))
