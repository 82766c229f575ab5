-- What reading says of a text.
use Rattle.std.proofs.Common.{◌≡◌, ◌≢◌, ℕ, ◌-◌, ◌≤◌, List, [], ◌∷◌, ◌++◌, length, take, Some, Ok, Err, refl, sym, ap, ◌∙◌, arith}
use Rattle.std.proofs.lemmas.List.{append-nil, nil_from_length, take_at, length-append}
use Rattle.td_certificate.specs.declared.fault.CertFaultKind.{CertFaultKind}
use Rattle.td_certificate.specs.declared.certificate.Certificate.{Certificate}
use Rattle.td_certificate.specs.declared.fields.Reason.{Reason}
use Rattle.td_certificate.specs.declared.fields.Reason.TheVariants as reason
use Rattle.td_certificate.specs.Spelling.{Spells, spelling}
use Rattle.td_certificate.specs.Reading.{Reading, Ends, Wrong, certificate_at}
use Rattle.td_certificate.specs.Faults.{line_behind, IsWithinLimit, IsFront, HasMore, StopsAt, kind_at, kind_in, kind_of, IsFault}
use Rattle.td_certificate.proofs.Codes.{IsStopped-none, IsCode-one}
use Rattle.td_certificate.proofs.CertificateCode.{certificate_code}

-- the front of a text, by the length of its rest
front_is : (text front rest : List ℕ) → text ≡ front ++ rest → take (length text - length rest) text ≡ front
front_is text front rest e =
    let n : length front ≡ length text - length rest = omega (arith, ap length e, length-append front rest) in
    ap (λ (t : List ℕ). take (length text - length rest) t) e ∙ take_at front rest (length text - length rest) n

line_is : (text front rest : List ℕ) (line : ℕ) → text ≡ front ++ rest → line ≡ line_behind (take (length text - length rest) text) → line ≡ line_behind front
line_is text front rest line e l = l ∙ ap line_behind (front_is text front rest e)

some_bytes : (rest : List ℕ) → length rest ≢ 0 → (next : ℕ) × (later : List ℕ) × (rest ≡ next ∷ later)
some_bytes [] ne = absurd (ne refl)
some_bytes (b ∷ bytes) ne = (b, bytes, refl)

pub read_spelled : (text rest : List ℕ) (c : Certificate) → certificate_at text ≡ Ok (c, rest) → length rest ≡ 0 → Spells c text
read_spelled text rest c e none =
    let p = certificate_code.takes text c rest e in
    record { has = p.0; parts = p.1 ∙ ap (λ (t : List ℕ). spelling c ++ t) (nil_from_length rest none) ∙ append-nil (spelling c) }

pub read_within : (text rest : List ℕ) (c : Certificate) → certificate_at text ≡ Ok (c, rest) → length rest ≤ length text
read_within text rest c e =
    let p = certificate_code.takes text c rest e in
    omega (arith, ap length p.1, length-append (spelling c) rest)

pub stop_within : (text rest : List ℕ) (why : Reason) → certificate_at text ≡ Err (Wrong why rest) → length rest ≤ length text
stop_within text rest why e =
    let s = certificate_code.stops text rest why e in
    omega (arith, ap length s.parts, ap length s.rest_is, length-append s.front (s.next ∷ s.later))

pub read_more : (text rest : List ℕ) (c : Certificate) (line : ℕ) → certificate_at text ≡ Ok (c, rest) → length rest ≢ 0 → line ≡ line_behind (take (length text - length rest) text) → HasMore text line
read_more text rest c line e ne l =
    let p = certificate_code.takes text c rest e in
    let b = some_bytes rest ne in
    record {
      certificate = c;
      has = p.0;
      next = b.0;
      later = b.1;
      parts = p.1 ∙ ap (λ (t : List ℕ). spelling c ++ t) b.2;
      line = line_is text (spelling c) rest line p.1 l;
    }

pub read_front : (text : List ℕ) → certificate_at text ≡ Err Ends → IsFront text
read_front text e =
    let f = certificate_code.ends text e in
    record { certificate = f.value; has = f.has; next = f.next; later = f.later; parts = f.parts }

pub whole_line : (text : List ℕ) (line : ℕ) → line ≡ line_behind (take (length text - 0) text) → line ≡ line_behind text
whole_line text line l = line_is text text [] line (sym (append-nil text)) l

pub read_stop : (text rest : List ℕ) (line : ℕ) (why : Reason) → certificate_at text ≡ Err (Wrong why rest) → line ≡ line_behind (take (length text - length rest) text) → StopsAt text line
read_stop text rest line why e l =
    let s = certificate_code.stops text rest why e in
    record {
      front = s.front;
      next = s.next;
      later = s.later;
      parts = s.parts;
      readable = read_front s.front s.goes;
      unreadable = λ c more v. IsStopped-none certificate_code text rest s c more v;
      line = line_is text s.front rest line (s.parts ∙ ap (λ (t : List ℕ). s.front ++ t) (sym s.rest_is)) l;
    }

pub kind_is : (text rest : List ℕ) (why : Reason) → certificate_at text ≡ Err (Wrong why rest) → kind_in text ≡ Some (kind_of why)
unfolding kind_in
kind_is text rest why e = ap kind_at e

-- a text with a kind stops at a byte of some line
stop_of : (text : List ℕ) (k : CertFaultKind) (read : Reading Certificate) → certificate_at text ≡ read → kind_at read ≡ Some k → (line : ℕ) × StopsAt text line
stop_of text k (Ok x) e is = absurd cc
stop_of text k (Err Ends) e is = absurd cc
stop_of text k (Err (Wrong why rest)) e is =
    let line : ℕ = line_behind (take (length text - length rest) text) in
    (line, read_stop text rest line why e refl)

pub stops_for : (text : List ℕ) (k : CertFaultKind) → kind_in text ≡ Some k → (line : ℕ) × StopsAt text line
unfolding kind_in
stops_for text k is = stop_of text k (certificate_at text) refl is

pub unreadable_fault : (why : Reason) (line : ℕ) (text : List ℕ) → IsWithinLimit text → StopsAt text line → kind_in text ≡ Some (kind_of why) → IsFault (kind_of why) line text
unreadable_fault reason.Syntax line text within s is = (within, s, is)
unreadable_fault reason.NumberTooLarge line text within s is = (within, s, is)
unreadable_fault reason.Version line text within s is = (within, s, is)

pub spells_once : (this that : Certificate) (text other more : List ℕ) → Spells this text → Spells that other → text ≡ other ++ more → (this ≡ that) × (more ≡ [])
spells_once this that text other more p q e =
    IsCode-one certificate_code this that more p.has q.has (sym p.parts ∙ e ∙ ap (λ (t : List ℕ). t ++ more) q.parts)
