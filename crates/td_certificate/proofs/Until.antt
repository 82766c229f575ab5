-- Values up to one that is the last are a code.
use Rattle.std.proofs.Common.{◌≡◌, ℕ, zero, suc, ◌≤◌, ◌<◌, Bool, true, false, List, ◌∷◌, ◌++◌, length, Result, Ok, Err, inl, inr, refl, sym, ap, subst, ◌∙◌, append_assoc, arith}
use Rattle.std.proofs.lemmas.List.{length-append}
use Rattle.td_certificate.specs.declared.fields.Reason.{Reason}
use Rattle.td_certificate.specs.Reading.{Stop, Ends, Wrong, Reading, ◌>>=◌}
use Rattle.td_certificate.specs.StepReading.{ended_by, until_within, until_at}
use Rattle.td_certificate.proofs.Loops.{done, done_is}
use Rattle.td_certificate.proofs.Codes.{IsCode, IsFrontOf, IsStopped, bind_ok, bind_err}
use Rattle.td_certificate.proofs.FieldCodes.{ends, wrong}
use Rattle.td_certificate.proofs.VectorCodes.{cases}

-- what a whole is made of: the last value alone, or another one before the rest
pub data Parts {A B : Type 0} (last : A → Bool) (single : A → B) (put : A → B → B) (item : A → Type 0) (item_text : A → List ℕ) (valid : B → Type 0) (text : B → List ℕ) (whole : B) : Type 0 where
  alone : (x : A) → item x → last x ≡ true → whole ≡ single x → text whole ≡ item_text x → Parts last single put item item_text valid text whole
  before : (x : A) (others : B) → item x → last x ≡ false → valid others → whole ≡ put x others → text whole ≡ item_text x ++ text others
      → Parts last single put item item_text valid text whole

pub record IsUntil {A B : Type 0} (last : A → Bool) (single : A → B) (put : A → B → B) (item : A → Type 0) (item_text : A → List ℕ) (valid : B → Type 0) (text : B → List ℕ) : Type 0 where
  pub some : A
  pub some_is : item some
  pub some_last : last some ≡ true
  pub long : (x : A) → item x → 0 < length (item_text x)
  pub parts : (whole : B) → valid whole → Parts last single put item item_text valid text whole
  pub to_alone : (x : A) → item x → last x ≡ true → valid (single x) × (text (single x) ≡ item_text x)
  pub to_before : (x : A) (others : B) → item x → last x ≡ false → valid others → valid (put x others) × (text (put x others) ≡ item_text x ++ text others)

reading_cases : {A : Type 0} {X : Type 0} (r : Result A Stop) → ((x : A) → r ≡ Ok x → X) → ((stop : Stop) → r ≡ Err stop → X) → X
reading_cases (Ok x) f g = f x refl
reading_cases (Err stop) f g = g stop refl

pub shorter : {A : Type 0} {item : A → Type 0} {item_text : A → List ℕ} {read : List ℕ → Reading A} → IsCode item item_text read → ((x : A) → item x → 0 < length (item_text x))
    → (bytes : List ℕ) (x : A × List ℕ) → read bytes ≡ Ok x → length x.1 < length bytes
shorter {A} {item} {item_text} {read} code long bytes x e =
    let p = code.takes bytes x.0 x.1 e in
    omega (arith, long x.0 p.0, ap length p.1, length-append (item_text x.0) x.1)

-- of no bytes nothing is read
no_bytes : {A : Type 0} {item : A → Type 0} {item_text : A → List ℕ} {read : List ℕ → Reading A} → IsCode item item_text read → ((x : A) → item x → 0 < length (item_text x))
    → (bytes : List ℕ) → length bytes ≤ 0 → read bytes ≡ Err Ends
no_bytes {A} {item} {item_text} {read} code long bytes le =
    read_none (read bytes) refl
  where
    no_front : {X : Type 0} (front : List ℕ) (next : ℕ) (later : List ℕ) → bytes ≡ front ++ next ∷ later → X
    no_front front next later e = absurd (omega (arith, le, ap length e, length-append front (next ∷ later)))

    read_none : (r : Reading A) → read bytes ≡ r → read bytes ≡ Err Ends
    read_none (Ok x) e = absurd (omega (arith, le, shorter code long bytes x e))
    read_none (Err Ends) e = e
    read_none (Err (Wrong reason rest)) e = let s = code.stops bytes rest reason e in no_front s.front s.next s.later s.parts

within_none : {A B : Type 0} (last : A → Bool) (single : A → B) (put : A → B → B) (read : List ℕ → Reading A) (bytes : List ℕ) → until_within last single put read zero bytes ≡ Err Ends
unfolding until_within
within_none last single put read bytes = refl

-- what follows a first value, where the others are read so
abbrev pub behind_value : {A B : Type 0} → (A → Bool) → (A → B) → (A → B → B) → (List ℕ → Reading B) → A × List ℕ → Reading B
behind_value last single put others x = ended_by single put (last x.0) x.0 x.1 (others x.1)

within_suc : {A B : Type 0} (last : A → Bool) (single : A → B) (put : A → B → B) (read : List ℕ → Reading A) (count : ℕ) (bytes : List ℕ)
    → until_within last single put read (suc count) bytes ≡ (read bytes >>= behind_value last single put (until_within last single put read count))
unfolding until_within
within_suc last single put read count bytes = refl

-- two counts that are enough give the same
enough : {A B : Type 0} {item : A → Type 0} {item_text : A → List ℕ} {read : List ℕ → Reading A} (last : A → Bool) (single : A → B) (put : A → B → B)
    → IsCode item item_text read → ((x : A) → item x → 0 < length (item_text x)) → (m k : ℕ) (bytes : List ℕ) → length bytes ≤ m → length bytes ≤ k
    → until_within last single put read m bytes ≡ until_within last single put read k bytes
enough last single put code long zero zero bytes a b = refl
enough {read} last single put code long zero (suc k) bytes a b =
    within_none last single put read bytes
    ∙ sym (within_suc last single put read k bytes ∙ ap (λ r. r >>= behind_value last single put (until_within last single put read k)) (no_bytes code long bytes a))
enough {read} last single put code long (suc m) zero bytes a b =
    within_suc last single put read m bytes ∙ ap (λ r. r >>= behind_value last single put (until_within last single put read m)) (no_bytes code long bytes b)
    ∙ sym (within_none last single put read bytes)
enough {A} {B} {item} {item_text} {read} last single put code long (suc m) (suc k) bytes a b =
    within_suc last single put read m bytes
    ∙ reading_cases (read bytes)
    (λ x e.
    let short = shorter code long bytes x e in
    let same : until_within last single put read m x.1 ≡ until_within last single put read k x.1 = enough last single put code long m k x.1 (omega arith) (omega arith) in
    ap (λ (r : Reading A). r >>= behind_value last single put (until_within last single put read m)) e
    ∙ ap (λ (r : Reading B). ended_by single put (last x.0) x.0 x.1 r) same
    ∙ ap (λ (r : Reading A). r >>= behind_value last single put (until_within last single put read k)) (sym e))
    (λ stop e.
    ap (λ (r : Reading A). r >>= behind_value last single put (until_within last single put read m)) e
    ∙ ap (λ (r : Reading A). r >>= behind_value last single put (until_within last single put read k)) (sym e))
    ∙ sym (within_suc last single put read k bytes)

to_until_at : {A B : Type 0} {item : A → Type 0} {item_text : A → List ℕ} {read : List ℕ → Reading A} (last : A → Bool) (single : A → B) (put : A → B → B)
    → IsCode item item_text read → ((x : A) → item x → 0 < length (item_text x)) → (m : ℕ) (bytes : List ℕ) → length bytes ≤ m
    → until_within last single put read m bytes ≡ until_at last single put read bytes
unfolding until_at
to_until_at last single put code long m bytes le = enough last single put code long m (length bytes) bytes le (omega arith)

-- the first value, and what follows it
pub until_first : {A B : Type 0} {item : A → Type 0} {item_text : A → List ℕ} {read : List ℕ → Reading A} (last : A → Bool) (single : A → B) (put : A → B → B)
    → IsCode item item_text read → ((x : A) → item x → 0 < length (item_text x)) → (bytes : List ℕ)
    → until_at last single put read bytes ≡ (read bytes >>= behind_value last single put (until_at last single put read))
until_first {A} {B} {item} {item_text} {read} last single put code long bytes =
    sym (to_until_at last single put code long (suc (length bytes)) bytes (omega arith)) ∙ within_suc last single put read (length bytes) bytes
    ∙ reading_cases (read bytes)
    (λ x e.
    let short = shorter code long bytes x e in
    ap (λ (r : Reading A). r >>= behind_value last single put (until_within last single put read (length bytes))) e
    ∙ ap (λ (r : Reading B). ended_by single put (last x.0) x.0 x.1 r) (to_until_at last single put code long (length bytes) x.1 (omega arith))
    ∙ ap (λ (r : Reading A). r >>= behind_value last single put (until_at last single put read)) (sym e))
    (λ stop e.
    ap (λ (r : Reading A). r >>= behind_value last single put (until_within last single put read (length bytes))) e
    ∙ ap (λ (r : Reading A). r >>= behind_value last single put (until_at last single put read)) (sym e))

-- the last value ends it, others are put before what follows
pub ended_alone : {A B : Type 0} (single : A → B) (put : A → B → B) (t : Bool) (x : A) (rest : List ℕ) (others : Reading B) → t ≡ true → ended_by single put t x rest others ≡ Ok (single x, rest)
ended_alone single put t x rest others e = rw e refl

pub ended_before : {A B : Type 0} (single : A → B) (put : A → B → B) (t : Bool) (x : A) (rest : List ℕ) (others : Reading B) → t ≡ false
    → ended_by single put t x rest others ≡ (others >>= λ y. Ok (put x y.0, y.1))
ended_before single put t x rest others e = rw e refl

abbrev stopped : {A : Type 0} → Stop → Reading A
stopped stop = Err stop

again_stop : {A B : Type 0} (this that : Stop) → stopped {A = A} this ≡ stopped that → stopped {A = B} this ≡ stopped that
again_stop this that e = cc

put_err : {A B : Type 0} (put : A → B → B) (x : A) (r : Reading B) (stop : Stop) → (r >>= λ y. Ok (put x y.0, y.1)) ≡ stopped {A = B} stop → r ≡ stopped stop
put_err put x (Ok y) stop e = absurd cc
put_err put x (Err this) stop e = again_stop this stop e

until_takes : {A B : Type 0} {last : A → Bool} {single : A → B} {put : A → B → B} {item : A → Type 0} {item_text : A → List ℕ} {valid : B → Type 0} {text : B → List ℕ} {read : List ℕ → Reading A}
    → IsCode item item_text read → IsUntil last single put item item_text valid text → (m : ℕ) (bytes : List ℕ) (whole : B) (rest : List ℕ) → length bytes < m
    → until_at last single put read bytes ≡ Ok (whole, rest) → valid whole × (bytes ≡ text whole ++ rest)
until_takes code u zero bytes whole rest lt e = absurd (omega (arith, lt))
until_takes {A} {B} {last} {single} {put} {item} {item_text} {valid} {text} {read} code u (suc m) bytes whole rest lt e =
    let a = bind_ok (read bytes) (behind_value last single put (until_at last single put read)) (whole, rest) (sym (until_first last single put code u.long bytes) ∙ e) in
    let x = a.0 in
    let first = code.takes bytes x.0 x.1 a.1 in
    let short = shorter code u.long bytes x a.1 in
    cases (last x.0)
    (λ h.
    let p = u.to_alone x.0 first.0 h in
    let same : (single x.0, x.1) ≡ (whole, rest) = done_is (single x.0, x.1) (whole, rest) (sym (ended_alone single put (last x.0) x.0 x.1 (until_at last single put read x.1) h) ∙ a.2) in
    let one : bytes ≡ text (single x.0) ++ x.1 = first.1 ∙ ap (λ (t : List ℕ). t ++ x.1) (sym p.1) in
    subst (λ (q : B × List ℕ). valid q.0 × (bytes ≡ text q.0 ++ q.1)) same (p.0, one))
    (λ h.
    let b = bind_ok (until_at last single put read x.1) (λ y. done (put x.0 y.0, y.1)) (whole, rest) (sym (ended_before single put (last x.0) x.0 x.1 (until_at last single put read x.1) h) ∙ a.2) in
    let y = b.0 in
    let others = until_takes code u m x.1 y.0 y.1 (omega (arith, short, lt)) b.1 in
    let p = u.to_before x.0 y.0 first.0 h others.0 in
    let same : (put x.0 y.0, y.1) ≡ (whole, rest) = done_is (put x.0 y.0, y.1) (whole, rest) b.2 in
    let all : bytes ≡ text (put x.0 y.0) ++ y.1 =
    first.1 ∙ ap (λ (t : List ℕ). item_text x.0 ++ t) others.1 ∙ sym (append_assoc (item_text x.0) (text y.0) y.1) ∙ ap (λ (t : List ℕ). t ++ y.1) (sym p.1) in
    subst (λ (q : B × List ℕ). valid q.0 × (bytes ≡ text q.0 ++ q.1)) same (p.0, all))

until_again : {A B : Type 0} {last : A → Bool} {single : A → B} {put : A → B → B} {item : A → Type 0} {item_text : A → List ℕ} {valid : B → Type 0} {text : B → List ℕ} {read : List ℕ → Reading A}
    → IsCode item item_text read → IsUntil last single put item item_text valid text → (m : ℕ) (whole : B) (rest : List ℕ) → length (text whole) < m → valid whole
    → until_at last single put read (text whole ++ rest) ≡ Ok (whole, rest)
until_again code u zero whole rest lt v = absurd (omega (arith, lt))
until_again {A} {B} {last} {single} {put} {item} {item_text} {valid} {text} {read} code u (suc m) whole rest lt v =
    elim (u.parts whole v) [
      | alone x is h same parts ↦
          ap (until_at last single put read) (ap (λ (t : List ℕ). t ++ rest) parts)
          ∙ until_first last single put code u.long (item_text x ++ rest)
          ∙ ap (λ (r : Reading A). r >>= behind_value last single put (until_at last single put read)) (code.again x rest is)
          ∙ ended_alone single put (last x) x rest (until_at last single put read rest) h
          ∙ ap (λ (b : B). done (b, rest)) (sym same)
      | before x others is h w same parts ↦
          ap (until_at last single put read) (ap (λ (t : List ℕ). t ++ rest) parts ∙ append_assoc (item_text x) (text others) rest)
          ∙ until_first last single put code u.long (item_text x ++ (text others ++ rest))
          ∙ ap (λ (r : Reading A). r >>= behind_value last single put (until_at last single put read)) (code.again x (text others ++ rest) is)
          ∙ ended_before single put (last x) x (text others ++ rest) (until_at last single put read (text others ++ rest)) h
          ∙ ap (λ (r : Reading B). r >>= λ y. done (put x y.0, y.1))
          (until_again code u m others rest (omega (arith, u.long x is, lt, ap length parts, length-append (item_text x) (text others))) w)
          ∙ ap (λ (b : B). done (b, rest)) (sym same)
    ]

until_ends : {A B : Type 0} {last : A → Bool} {single : A → B} {put : A → B → B} {item : A → Type 0} {item_text : A → List ℕ} {valid : B → Type 0} {text : B → List ℕ} {read : List ℕ → Reading A}
    → IsCode item item_text read → IsUntil last single put item item_text valid text → (m : ℕ) (bytes : List ℕ) → length bytes < m
    → until_at last single put read bytes ≡ Err Ends → IsFrontOf valid text bytes
until_ends code u zero bytes lt e = absurd (omega (arith, lt))
until_ends {A} {B} {last} {single} {put} {item} {item_text} {valid} {text} {read} code u (suc m) bytes lt e =
    elim (bind_err (read bytes) (behind_value last single put (until_at last single put read)) Ends (sym (until_first last single put code u.long bytes) ∙ e)) as (λ _. IsFrontOf valid text bytes) [
      | inl here ↦
          let f = code.ends bytes here in
          cases (last f.value)
          (λ h.
          let p = u.to_alone f.value f.has h in
          record { value = single f.value; has = p.0; next = f.next; later = f.later; parts = p.1 ∙ f.parts })
          (λ h.
          let q = u.to_alone u.some u.some_is u.some_last in
          let p = u.to_before f.value (single u.some) f.has h q.0 in
          record {
            value = put f.value (single u.some);
            has = p.0;
            next = f.next;
            later = f.later ++ text (single u.some);
            parts = p.1 ∙ ap (λ (t : List ℕ). t ++ text (single u.some)) f.parts ∙ append_assoc bytes (f.next ∷ f.later) (text (single u.some));
          })
      | inr there ↦
          let x = there.value in
          let first = code.takes bytes x.0 x.1 there.was in
          let short = shorter code u.long bytes x there.was in
          cases (last x.0)
          (λ h. absurd (let q : done (single x.0, x.1) ≡ ends = sym (ended_alone single put (last x.0) x.0 x.1 (until_at last single put read x.1) h) ∙ there.stopped in cc))
          (λ h.
          let f = until_ends code u m x.1 (omega (arith, short, lt))
          (put_err put x.0 (until_at last single put read x.1) Ends (sym (ended_before single put (last x.0) x.0 x.1 (until_at last single put read x.1) h) ∙ there.stopped)) in
          let p = u.to_before x.0 f.value first.0 h f.has in
          record {
            value = put x.0 f.value;
            has = p.0;
            next = f.next;
            later = f.later;
            parts = p.1 ∙ ap (λ (t : List ℕ). item_text x.0 ++ t) f.parts ∙ sym (append_assoc (item_text x.0) x.1 (f.next ∷ f.later)) ∙ ap (λ (t : List ℕ). t ++ f.next ∷ f.later) (sym first.1);
          })
    ]

until_stops : {A B : Type 0} {last : A → Bool} {single : A → B} {put : A → B → B} {item : A → Type 0} {item_text : A → List ℕ} {valid : B → Type 0} {text : B → List ℕ} {read : List ℕ → Reading A}
    → IsCode item item_text read → IsUntil last single put item item_text valid text → (m : ℕ) (bytes rest : List ℕ) (reason : Reason) → length bytes < m
    → until_at last single put read bytes ≡ Err (Wrong reason rest) → IsStopped (until_at last single put read) bytes rest
until_stops code u zero bytes rest reason lt e = absurd (omega (arith, lt))
until_stops {A} {B} {last} {single} {put} {item} {item_text} {valid} {text} {read} code u (suc m) bytes rest reason lt e =
    elim (bind_err (read bytes) (behind_value last single put (until_at last single put read)) (Wrong reason rest) (sym (until_first last single put code u.long bytes) ∙ e))
    as (λ _. IsStopped (until_at last single put read) bytes rest) [
      | inl here ↦
          let s = code.stops bytes rest reason here in
          record {
            front = s.front;
            next = s.next;
            later = s.later;
            parts = s.parts;
            rest_is = s.rest_is;
            goes = until_first last single put code u.long s.front ∙ ap (λ (r : Reading A). r >>= behind_value last single put (until_at last single put read)) s.goes;
            stays = λ other.
                let w = s.stays other in
                (w.0, until_first last single put code u.long (s.front ++ s.next ∷ other) ∙ ap (λ (r : Reading A). r >>= behind_value last single put (until_at last single put read)) w.1);
          }
      | inr there ↦
          let x = there.value in
          let first = code.takes bytes x.0 x.1 there.was in
          let short = shorter code u.long bytes x there.was in
          cases (last x.0)
          (λ h. absurd (let q : done (single x.0, x.1) ≡ wrong reason rest = sym (ended_alone single put (last x.0) x.0 x.1 (until_at last single put read x.1) h) ∙ there.stopped in cc))
          (λ h.
          let s = until_stops code u m x.1 rest reason (omega (arith, short, lt))
          (put_err put x.0 (until_at last single put read x.1) (Wrong reason rest) (sym (ended_before single put (last x.0) x.0 x.1 (until_at last single put read x.1) h) ∙ there.stopped)) in
          let joined : (other : List ℕ) → until_at last single put read (item_text x.0 ++ other) ≡ (until_at last single put read other >>= λ y. Ok (put x.0 y.0, y.1)) =
          λ other.
          until_first last single put code u.long (item_text x.0 ++ other)
          ∙ ap (λ (r : Reading A). r >>= behind_value last single put (until_at last single put read)) (code.again x.0 other first.0)
          ∙ ended_before single put (last x.0) x.0 other (until_at last single put read other) h in
          record {
            front = item_text x.0 ++ s.front;
            next = s.next;
            later = s.later;
            parts = first.1 ∙ ap (λ (t : List ℕ). item_text x.0 ++ t) s.parts ∙ sym (append_assoc (item_text x.0) s.front (s.next ∷ s.later));
            rest_is = s.rest_is;
            goes = joined s.front ∙ ap (λ (r : Reading B). r >>= λ y. done (put x.0 y.0, y.1)) s.goes;
            stays = λ other.
                let w = s.stays other in
                (w.0, ap (until_at last single put read) (append_assoc (item_text x.0) s.front (s.next ∷ other)) ∙ joined (s.front ++ s.next ∷ other) ∙ ap (λ (r : Reading B). r >>= λ y. done (put x.0 y.0, y.1)) w.1);
          })
    ]

pub until_code : {A B : Type 0} {last : A → Bool} {single : A → B} {put : A → B → B} {item : A → Type 0} {item_text : A → List ℕ} {valid : B → Type 0} {text : B → List ℕ} {read : List ℕ → Reading A}
    → IsCode item item_text read → IsUntil last single put item item_text valid text → IsCode valid text (until_at last single put read)
until_code {last} {single} {put} {text} code u = record {
  some = single u.some;
  some_valid = (u.to_alone u.some u.some_is u.some_last).0;
  takes = λ bytes whole rest e. until_takes code u (suc (length bytes)) bytes whole rest (omega arith) e;
  again = λ whole rest v. until_again code u (suc (length (text whole))) whole rest (omega arith) v;
  ends = λ bytes e. until_ends code u (suc (length bytes)) bytes (omega arith) e;
  stops = λ bytes rest reason e. until_stops code u (suc (length bytes)) bytes rest reason (omega arith) e;
}
