-- One of two kinds of fields, by the first byte.
use Rattle.std.proofs.Common.{◌≡◌, ℕ, ◌<◌, Bool, true, false, cond, eqb, List, [], ◌∷◌, ◌++◌, length, Ok, Err, ◌⊎◌, inl, inr, refl, sym, ap, subst, ◌∙◌, arith}
use Rattle.std.proofs.lemmas.Bool.{eqb-true, eq-eqb}
use Rattle.std.proofs.lemmas.List.{append-nil}
use Rattle.td_certificate.specs.declared.fields.Reason.{Reason}
use Rattle.td_certificate.specs.Reading.{Ends, Wrong, Reading}
use Rattle.td_certificate.proofs.Codes.{IsCode, IsFrontOf, IsStopped}
use Rattle.td_certificate.proofs.FieldCodes.{ends, wrong, chosen}
use Rattle.td_certificate.proofs.Loops.{done}
use Rattle.td_certificate.proofs.VectorCodes.{cases}

-- a value of the one kind where the first byte is this one, else one of the other kind
abbrev pub choice : {A : Type 0} → ℕ → (List ℕ → Reading A) → (List ℕ → Reading A) → List ℕ → Reading A
choice byte this that [] = Err Ends
choice byte this that (b ∷ rest) = cond (eqb b byte) (this (b ∷ rest)) (that (b ∷ rest))

-- texts of the one kind begin with the byte; reading the other kind stops at it
pub record IsChoice {A : Type 0} (byte : ℕ) (one other : A → Type 0) (text : A → List ℕ) (this that : List ℕ → Reading A) : Type 0 where
  pub one_code : IsCode one text this
  pub other_code : IsCode other text that
  pub tail : A → List ℕ
  pub begins : (x : A) → one x → text x ≡ byte ∷ tail x
  pub long : (x : A) → other x → 0 < length (text x)
  pub why : Reason
  pub stops : (rest : List ℕ) → that (byte ∷ rest) ≡ Err (Wrong why (byte ∷ rest))

first_is : (b c : ℕ) (bs cs : List ℕ) → b ∷ bs ≡ c ∷ cs → b ≡ c
first_is b c bs cs e = cc

-- the front of a text that begins with a byte is empty or begins with it
same_first : (front bytes later : List ℕ) (b next : ℕ) → b ∷ bytes ≡ front ++ next ∷ later → (other : List ℕ) → (tail : List ℕ) × (front ++ next ∷ other ≡ b ∷ tail)
same_first [] bytes later b next e other = (other, ap (λ (n : ℕ). n ∷ other) (sym (first_is b next bytes later e)))
same_first (f ∷ fs) bytes later b next e other =
    (fs ++ next ∷ other, ap (λ (n : ℕ). n ∷ (fs ++ next ∷ other)) (sym (first_is b f bytes (fs ++ next ∷ later) e)))

module _ {A : Type 0} (byte : ℕ) (one other : A → Type 0) (text : A → List ℕ) (this that : List ℕ → Reading A) (is : IsChoice byte one other text this that) where
  abbrev read : List ℕ → Reading A
  read bytes = choice byte this that bytes

  reads_this : (b : ℕ) (rest : List ℕ) → eqb b byte ≡ true → read (b ∷ rest) ≡ this (b ∷ rest)
  reads_this b rest e = rw e refl

  reads_that : (b : ℕ) (rest : List ℕ) → eqb b byte ≡ false → read (b ∷ rest) ≡ that (b ∷ rest)
  reads_that b rest e = rw e refl

  abbrev Either : A → Type 0
  Either x = one x ⊎ other x

  -- a text of the other kind doesn't begin with the byte
  apart : (x : A) (rest : List ℕ) → other x → (b : ℕ) (bs : List ℕ) → text x ≡ b ∷ bs → eqb b byte ≡ false
  apart x rest v b bs e =
      cases (eqb b byte)
      (λ h. absurd (
      let same : b ≡ byte = eqb-true b byte h in
      let again : that (text x ++ rest) ≡ Ok (x, rest) = is.other_code.again x rest v in
      let stop : that (text x ++ rest) ≡ Err (Wrong is.why (byte ∷ (bs ++ rest))) =
      ap (λ (t : List ℕ). that (t ++ rest)) e ∙ ap (λ (n : ℕ). that (n ∷ (bs ++ rest))) same ∙ is.stops (bs ++ rest) in
      let clash : done (x, rest) ≡ wrong is.why (byte ∷ (bs ++ rest)) = sym again ∙ stop in cc))
      (λ h. h)

  again : (x : A) (rest : List ℕ) → Either x → read (text x ++ rest) ≡ Ok (x, rest)
  again x rest (inl v) =
      let begins : text x ++ rest ≡ byte ∷ (is.tail x ++ rest) = ap (λ (t : List ℕ). t ++ rest) (is.begins x v) in
      ap read begins ∙ reads_this byte (is.tail x ++ rest) (eq-eqb byte byte refl) ∙ ap this (sym begins) ∙ is.one_code.again x rest v
  again x rest (inr v) = by_text (text x) refl
    where
      by_text : (t : List ℕ) → text x ≡ t → read (text x ++ rest) ≡ Ok (x, rest)
      by_text [] e = absurd (omega (arith, is.long x v, ap length e))
      by_text (b ∷ bs) e =
          let begins : text x ++ rest ≡ b ∷ (bs ++ rest) = ap (λ (t : List ℕ). t ++ rest) e in
          ap read begins ∙ reads_that b (bs ++ rest) (apart x rest v b bs e) ∙ ap that (sym begins) ∙ is.other_code.again x rest v

  takes : (bytes : List ℕ) (x : A) (rest : List ℕ) → read bytes ≡ Ok (x, rest) → Either x × (bytes ≡ text x ++ rest)
  takes [] x rest e = absurd (let h : ends ≡ done (x, rest) = e in cc)
  takes (b ∷ bytes) x rest e =
      elim (chosen (eqb b byte) (this (b ∷ bytes)) (that (b ∷ bytes)) (done (x, rest)) e) [
        | inl here ↦ let p = is.one_code.takes (b ∷ bytes) x rest here.1 in (inl p.0, p.1)
        | inr there ↦ let p = is.other_code.takes (b ∷ bytes) x rest there.1 in (inr p.0, p.1)
      ]

  to_ends : (bytes : List ℕ) → read bytes ≡ Err Ends → IsFrontOf Either text bytes
  to_ends [] e =
      let x = is.one_code.some in
      record { value = x; has = inl is.one_code.some_valid; next = byte; later = is.tail x; parts = is.begins x is.one_code.some_valid }
  to_ends (b ∷ bytes) e =
      elim (chosen (eqb b byte) (this (b ∷ bytes)) (that (b ∷ bytes)) ends e) [
        | inl here ↦ let f = is.one_code.ends (b ∷ bytes) here.1 in record { value = f.value; has = inl f.has; next = f.next; later = f.later; parts = f.parts }
        | inr there ↦ let f = is.other_code.ends (b ∷ bytes) there.1 in record { value = f.value; has = inr f.has; next = f.next; later = f.later; parts = f.parts }
      ]

  -- a front of bytes that begin with this one reads as that of the kind
  front_reads : (kind : List ℕ → Reading A) (front bytes later : List ℕ) (b next : ℕ) → b ∷ bytes ≡ front ++ next ∷ later
      → ((rest : List ℕ) → read (b ∷ rest) ≡ kind (b ∷ rest)) → kind front ≡ Err Ends → read front ≡ Err Ends
  front_reads kind [] bytes later b next e reads goes = refl
  front_reads kind (f ∷ fs) bytes later b next e reads goes =
      let same : b ≡ f = first_is b f bytes (fs ++ next ∷ later) e in
      ap (λ (n : ℕ). read (n ∷ fs)) (sym same) ∙ reads fs ∙ ap (λ (n : ℕ). kind (n ∷ fs)) same ∙ goes

  stopped : (kind : List ℕ → Reading A) (b : ℕ) (bytes rest : List ℕ) → ((rest : List ℕ) → read (b ∷ rest) ≡ kind (b ∷ rest))
      → IsStopped kind (b ∷ bytes) rest → IsStopped read (b ∷ bytes) rest
  stopped kind b bytes rest reads s = record {
    front = s.front;
    next = s.next;
    later = s.later;
    parts = s.parts;
    rest_is = s.rest_is;
    goes = front_reads kind s.front bytes s.later b s.next s.parts reads s.goes;
    stays = λ more.
        let w = s.stays more in
        let t = same_first s.front bytes s.later b s.next s.parts more in
        (w.0, ap read t.1 ∙ reads t.0 ∙ ap kind (sym t.1) ∙ w.1);
  }

  to_stops : (bytes rest : List ℕ) (reason : Reason) → read bytes ≡ Err (Wrong reason rest) → IsStopped read bytes rest
  to_stops [] rest reason e = absurd (let h : ends {A = A} ≡ wrong reason rest = e in cc)
  to_stops (b ∷ bytes) rest reason e =
      elim (chosen (eqb b byte) (this (b ∷ bytes)) (that (b ∷ bytes)) (wrong reason rest) e) [
        | inl here ↦ stopped this b bytes rest (λ more. reads_this b more here.0) (is.one_code.stops (b ∷ bytes) rest reason here.1)
        | inr there ↦ stopped that b bytes rest (λ more. reads_that b more there.0) (is.other_code.stops (b ∷ bytes) rest reason there.1)
      ]

  pub choice_code : IsCode Either text read
  choice_code = record {
    some = is.one_code.some;
    some_valid = inl is.one_code.some_valid;
    takes = takes;
    again = again;
    ends = to_ends;
    stops = to_stops;
  }
