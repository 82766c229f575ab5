-- The first line is a code, whatever the reason for which it is refused.
use Rattle.std.proofs.Common.{◌≡◌, ℕ, List, [], ◌∷◌, ◌++◌, Some, Ok, Err, refl, ap}
use Rattle.std.specs.Prelude.{codes}
use Rattle.td_certificate.specs.declared.fields.Reason.{Reason}
use Rattle.td_certificate.specs.declared.question.Version.{Version}
use Rattle.td_certificate.specs.declared.question.Version.TheVariants.{First, Second, Third, Fourth}
use Rattle.td_certificate.specs.Reading.{Ends, Wrong, Reading, char_at, version_digit, version_of_digit, digit_at, version_reason, because, version_at}
use Rattle.td_certificate.proofs.Codes.{IsCode}
use Rattle.td_certificate.proofs.FieldCodes.{ends, wrong, wrong_is, Always}
use Rattle.td_certificate.proofs.Loops.{done}
use Rattle.td_certificate.proofs.VectorCodes.{behind_word, before_word, IsLetter, written_from, char_code}

because_ok : {A : Type 0} (why : Reason) (read : Reading A) (x : A × List ℕ) → because why read ≡ Ok x → read ≡ Ok x
because_ok why (Ok y) x e = e
because_ok {A} why (Err Ends) x e = absurd (let h : ends {A = A} ≡ done x = e in cc)
because_ok {A} why (Err (Wrong other rest)) x e = absurd (let h : wrong {A = A} why rest ≡ done x = e in cc)

because_ends : {A : Type 0} (why : Reason) (read : Reading A) → because why read ≡ Err Ends → read ≡ Err Ends
because_ends why (Ok y) e = absurd (let h : done y ≡ ends = e in cc)
because_ends why (Err Ends) e = refl
because_ends {A} why (Err (Wrong other rest)) e = absurd (let h : wrong {A = A} why rest ≡ ends = e in cc)

because_wrong : {A : Type 0} (why reason : Reason) (read : Reading A) (rest : List ℕ) → because why read ≡ Err (Wrong reason rest) → (other : Reason) × (read ≡ Err (Wrong other rest))
because_wrong why reason (Ok y) rest e = absurd (let h : done y ≡ wrong reason rest = e in cc)
because_wrong {A} why reason (Err Ends) rest e = absurd (let h : ends {A = A} ≡ wrong reason rest = e in cc)
because_wrong {A} why reason (Err (Wrong other this)) rest e = (other, ap (wrong other) (wrong_is {A = A} this rest why reason e))

-- another reason for a stop is no other code
pub because_code : {A : Type 0} (why : List ℕ → Reason) (valid : A → Type 0) (text : A → List ℕ) (read : List ℕ → Reading A) → IsCode valid text read → IsCode valid text (λ bytes. because (why bytes) (read bytes))
because_code {A} why valid text read code = record {
  some = code.some;
  some_valid = code.some_valid;
  takes = λ bytes x rest e. code.takes bytes x rest (because_ok (why bytes) (read bytes) (x, rest) e);
  again = λ x rest v. ap (λ (r : Reading A). because (why (text x ++ rest)) r) (code.again x rest v);
  ends = λ bytes e. code.ends bytes (because_ends (why bytes) (read bytes) e);
  stops = λ bytes rest reason e.
      let w = because_wrong (why bytes) reason (read bytes) rest e in
      let s = code.stops bytes rest w.0 w.1 in
      record {
        front = s.front;
        next = s.next;
        later = s.later;
        parts = s.parts;
        rest_is = s.rest_is;
        goes = ap (λ (r : Reading A). because (why s.front) r) s.goes;
        stays = λ other. (why (s.front ++ s.next ∷ other), ap (λ (r : Reading A). because (why (s.front ++ s.next ∷ other)) r) (s.stays other).1);
      };
}

-- ---- versions

version_again : (version : Version) → version_of_digit (version_digit version) ≡ Some version
version_again First = refl
version_again Second = refl
version_again Third = refl
version_again Fourth = refl

version_letter : IsLetter Always version_of_digit version_digit
version_letter = record {
  some = First;
  some_valid = tt;
  again = λ x v. version_again x;
  from = λ b x e. written_from Always version_digit (First ∷ Second ∷ Third ∷ Fourth ∷ []) (tt, (tt, (tt, (tt, tt)))) b x e;
}

abbrev pub digit_text : Version → List ℕ
digit_text version = (version_digit version ∷ []) ++ codes "\n"

digit_code : IsCode Always digit_text digit_at
unfolding digit_at
digit_code = before_word Always (λ version. version_digit version ∷ []) (char_at version_of_digit) (codes "\n") (char_code Always version_of_digit version_digit version_letter)

abbrev pub version_text : Version → List ℕ
version_text version = codes "tdelay-cert " ++ digit_text version

pub version_code : IsCode Always version_text version_at
unfolding version_at
version_code =
    behind_word (codes "tdelay-cert ") Always digit_text (λ bytes. because (version_reason bytes) (digit_at bytes))
    (because_code version_reason Always digit_text digit_at digit_code)
