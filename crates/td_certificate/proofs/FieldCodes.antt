-- Each field is a code: words, letters, numbers, vectors.
use Rattle.std.proofs.Common.{◌≡◌, ℕ, zero, suc, ◌+◌, ◌-◌, ◌*◌, ◌/◌, ◌%◌, ◌^◌, ◌<◌, ◌≤◌, Bool, true, false, cond, eqb, ltb, leb, List, [], ◌∷◌, ◌++◌, Ok, Err, ◌⊎◌, inl, inr, refl, sym, ap, subst, ◌∙◌, append_assoc, arith}
use Rattle.std.specs.Prelude.{decimal}
use Rattle.std.specs.Char.{is_ascii_digit}
use Rattle.std.proofs.lemmas.List.{append-nil}
use Rattle.std.proofs.lemmas.Bool.{eqb-true, eq-eqb, ne_eqb, ltb-true, lt-ltb, leb-true, le-leb, and_parts}
use Rattle.std.proofs.lemmas.Fmt.{decimal_digit, decimal_step, decimal_by_steps}
use Rattle.td_certificate.specs.declared.fields.Reason.{Reason}
use Rattle.td_certificate.specs.declared.fields.Reason.TheVariants.{Syntax, NumberTooLarge}
use Rattle.td_certificate.specs.Reading.{Ends, Wrong, Reading, literal, digits_at, number_at, begins_with_zero, number_from}
use Rattle.td_certificate.proofs.Loops.{done, done_is}
use Rattle.td_certificate.proofs.Codes.{IsCode, IsFrontOf, IsStopped}

abbrev pub ends : {A : Type 0} → Reading A
ends = Err Ends

abbrev pub wrong : {A : Type 0} → Reason → List ℕ → Reading A
wrong reason rest = Err (Wrong reason rest)

-- where a test chose, each way
pub chosen : {A : Type 0} (b : Bool) (x y z : A) → cond b x y ≡ z → ((b ≡ true) × (x ≡ z)) ⊎ ((b ≡ false) × (y ≡ z))
chosen true x y z e = inl (refl, e)
chosen false x y z e = inr (refl, e)

pub wrong_is : {A : Type 0} (this that : List ℕ) (why reason : Reason) → wrong {A = A} why this ≡ wrong reason that → this ≡ that
wrong_is this that why reason e = cc

-- reading stops at the first byte, whatever follows
pub stopped_at_once : {A : Type 0} (read : List ℕ → Reading A) (b : ℕ) (bytes rest : List ℕ) (why reason : Reason) → wrong {A = A} why (b ∷ bytes) ≡ wrong reason rest → read [] ≡ Err Ends
    → ((other : List ℕ) → read (b ∷ other) ≡ Err (Wrong why (b ∷ other))) → IsStopped read (b ∷ bytes) rest
stopped_at_once read b bytes rest why reason e goes stays = record {
  front = [];
  next = b;
  later = bytes;
  parts = refl;
  rest_is = sym (wrong_is (b ∷ bytes) rest why reason e);
  goes = goes;
  stays = λ other. (why, stays other);
}

-- one more byte in front
pub stopped_behind : {A B : Type 0} (read : List ℕ → Reading A) (read_behind : List ℕ → Reading B) (b : ℕ) (bytes rest : List ℕ) → IsStopped read_behind bytes rest
    → ((other : List ℕ) → read_behind other ≡ Err Ends → read (b ∷ other) ≡ Err Ends)
    → ((other at : List ℕ) (why : Reason) → read_behind other ≡ Err (Wrong why at) → read (b ∷ other) ≡ Err (Wrong why at))
    → IsStopped read (b ∷ bytes) rest
stopped_behind read read_behind b bytes rest s goes stays = record {
  front = b ∷ s.front;
  next = s.next;
  later = s.later;
  parts = ap (λ (t : List ℕ). b ∷ t) s.parts;
  rest_is = s.rest_is;
  goes = goes s.front s.goes;
  stays = λ other. let w = s.stays other in (w.0, stays (s.front ++ s.next ∷ other) (s.next ∷ other) w.0 w.1);
}

-- ---- words

abbrev pub Always : {A : Type 0} → A → Type 0
Always x = Unit {0}

literal_same : (c b : ℕ) (cs rest : List ℕ) → b ≡ c → literal (c ∷ cs) (b ∷ rest) ≡ literal cs rest
unfolding literal
literal_same c b cs rest e = rw (eq-eqb b c e) refl

literal_differs : (c b : ℕ) (cs rest : List ℕ) → eqb b c ≡ false → literal (c ∷ cs) (b ∷ rest) ≡ Err (Wrong Syntax (b ∷ rest))
unfolding literal
literal_differs c b cs rest e = rw e refl

literal_takes : (word bytes rest : List ℕ) (u : Unit {0}) → literal word bytes ≡ Ok (u, rest) → bytes ≡ word ++ rest
unfolding literal
literal_takes [] bytes rest u e = ap (λ (x : Unit {0} × List ℕ). x.1) (done_is (tt, bytes) (u, rest) e)
literal_takes (c ∷ cs) [] rest u e = absurd cc
literal_takes (c ∷ cs) (b ∷ bytes) rest u e =
    elim (chosen (eqb b c) (literal cs bytes) (wrong Syntax (b ∷ bytes)) (done (u, rest)) e) [
      | inl here ↦ let same : b ≡ c = eqb-true b c here.0 in ap (λ (n : ℕ). n ∷ bytes) same ∙ ap (λ (t : List ℕ). c ∷ t) (literal_takes cs bytes rest u here.1)
      | inr there ↦ absurd (let h : wrong Syntax (b ∷ bytes) ≡ done (u, rest) = there.1 in cc)
    ]

literal_again : (word rest : List ℕ) → literal word (word ++ rest) ≡ Ok (tt, rest)
unfolding literal
literal_again [] rest = refl
literal_again (c ∷ cs) rest = literal_same c c cs (cs ++ rest) refl ∙ literal_again cs rest

literal_ends : (word bytes : List ℕ) → literal word bytes ≡ Err Ends → (next : ℕ) × (later : List ℕ) × (word ≡ bytes ++ next ∷ later)
unfolding literal
literal_ends [] bytes e = absurd cc
literal_ends (c ∷ cs) [] e = (c, cs, refl)
literal_ends (c ∷ cs) (b ∷ bytes) e =
    elim (chosen (eqb b c) (literal cs bytes) (wrong Syntax (b ∷ bytes)) ends e) [
      | inl here ↦
          let same : b ≡ c = eqb-true b c here.0 in
          let p = literal_ends cs bytes here.1 in
          (p.0, p.1, ap (λ (t : List ℕ). c ∷ t) p.2 ∙ ap (λ (n : ℕ). n ∷ (bytes ++ p.0 ∷ p.1)) (sym same))
      | inr there ↦ absurd (let h : wrong {A = Unit {0}} Syntax (b ∷ bytes) ≡ ends = there.1 in cc)
    ]

literal_stops : (word bytes rest : List ℕ) (reason : Reason) → literal word bytes ≡ Err (Wrong reason rest) → IsStopped (literal word) bytes rest
unfolding literal
literal_stops [] bytes rest reason e = absurd cc
literal_stops (c ∷ cs) [] rest reason e = absurd cc
literal_stops (c ∷ cs) (b ∷ bytes) rest reason e =
    elim (chosen (eqb b c) (literal cs bytes) (wrong Syntax (b ∷ bytes)) (wrong reason rest) e) [
      | inl here ↦
          let same : b ≡ c = eqb-true b c here.0 in
          stopped_behind (literal (c ∷ cs)) (literal cs) b bytes rest (literal_stops cs bytes rest reason here.1)
          (λ other h. literal_same c b cs other same ∙ h) (λ other at why h. literal_same c b cs other same ∙ h)
      | inr there ↦ stopped_at_once (literal (c ∷ cs)) b bytes rest Syntax reason there.1 refl (λ other. literal_differs c b cs other there.0)
    ]

pub literal_code : (word : List ℕ) → IsCode {A = Unit {0}} Always (λ u. word) (literal word)
literal_code word = record {
  some = tt;
  some_valid = tt;
  takes = λ bytes u rest e. (tt, literal_takes word bytes rest u e);
  again = λ u rest v. literal_again word rest;
  ends = λ bytes e. let p = literal_ends word bytes e in record { value = tt; has = tt; next = p.0; later = p.1; parts = p.2 };
  stops = λ bytes rest reason e. literal_stops word bytes rest reason e;
}

-- ---- numbers

pub digit_range : (b : ℕ) → is_ascii_digit b ≡ true → (48 ≤ b) × (b ≤ 57)
digit_range b e = let p = and_parts (leb 48 b) (leb b 57) e in (leb-true 48 b p.0, leb-true b 57 p.1)

pub range_digit : (b : ℕ) → 48 ≤ b → b ≤ 57 → is_ascii_digit b ≡ true
range_digit b low high = rw (le-leb 48 b low, le-leb b 57 high) refl

-- a limit that a word holds, and what closes a number is no digit
pub record IsLimit (most close : ℕ) : Type 0 where
  pub high : most < 2 ^ 64
  pub close_is : is_ascii_digit close ≡ false

not_close : (most close b : ℕ) → IsLimit most close → is_ascii_digit b ≡ true → eqb b close ≡ false
not_close most close b limit d =
    ne_eqb b close (λ e. let h : is_ascii_digit b ≡ false = ap is_ascii_digit e ∙ limit.close_is in cc)

-- a further digit
digits_more : (most close number b : ℕ) (rest : List ℕ) → IsLimit most close → is_ascii_digit b ≡ true → 0 < number → 10 * number + (b - 48) ≤ most
    → digits_at most close number (b ∷ rest) ≡ digits_at most close (10 * number + (b - 48)) rest
unfolding digits_at
digits_more most close number b rest limit d pos le =
    rw (not_close most close b limit d, d, lt-ltb 0 number pos, le-leb (10 * number + (b - 48)) most le) refl

-- the byte that closes it
digits_closed : (most close number : ℕ) (rest : List ℕ) → digits_at most close number (close ∷ rest) ≡ Ok (number, rest)
unfolding digits_at
digits_closed most close number rest = rw (eq-eqb close close refl) refl

number_first : (most close b : ℕ) (rest : List ℕ) → is_ascii_digit b ≡ true → b - 48 ≤ most → number_at most close (b ∷ rest) ≡ digits_at most close (b - 48) rest
unfolding number_at
number_first most close b rest d le = rw (d, le-leb (b - 48) most le) refl

-- a number's text is read up to its end
record Goes (most close number : ℕ) (text : List ℕ) : Type 0 where
  on : number ≤ most → (rest : List ℕ) → number_at most close (text ++ rest) ≡ digits_at most close number rest

goes_one : (most close : ℕ) → (n : ℕ) → n < 10 → Goes most close n ((48 + n) ∷ [])
goes_one most close n lt = record {
  on = λ le rest.
      number_first most close (48 + n) rest (range_digit (48 + n) (omega arith) (omega arith)) (omega arith)
      ∙ ap (λ (k : ℕ). digits_at most close k rest) (omega arith);
}

goes_more : (most close : ℕ) → IsLimit most close → (n : ℕ) (ds : List ℕ) → 10 ≤ n → Goes most close (n / 10) ds → Goes most close n (ds ++ ((48 + n % 10) ∷ []))
goes_more most close limit n ds le front = record {
  on = λ within rest.
      let q : 10 * (n / 10) + (48 + n % 10 - 48) ≡ n = omega arith in
      ap (number_at most close) (append_assoc ds ((48 + n % 10) ∷ []) rest)
      ∙ front.on (omega arith) ((48 + n % 10) ∷ rest)
      ∙ digits_more most close (n / 10) (48 + n % 10) rest limit (range_digit (48 + n % 10) (omega arith) (omega arith)) (omega arith) (omega arith)
      ∙ ap (λ (k : ℕ). digits_at most close k rest) q;
}

number_goes : (most close number : ℕ) (rest : List ℕ) → IsLimit most close → number ≤ most → number_at most close (decimal number ++ rest) ≡ digits_at most close number rest
number_goes most close number rest limit le =
    (decimal_by_steps (Goes most close) (goes_one most close) (goes_more most close limit) number (omega (arith, limit.high))).on le rest

-- a further digit of the text
pub decimal_more : (number b : ℕ) → 0 < number → 48 ≤ b → b ≤ 57 → 10 * number + (b - 48) < 2 ^ 64 → decimal (10 * number + (b - 48)) ≡ decimal number ++ b ∷ []
decimal_more number b pos low high small =
    let n : ℕ = 10 * number + (b - 48) in
    let q : n / 10 ≡ number = omega arith in
    let r : 48 + n % 10 ≡ b = omega arith in
    decimal_step n (omega arith) small ∙ ap (λ (k : ℕ). decimal k ++ ((48 + n % 10) ∷ [])) q ∙ ap (λ (k : ℕ). decimal number ++ k ∷ []) r

abbrev pub AtMost : ℕ → ℕ → Type 0
AtMost most number = number ≤ most

abbrev pub number_text : ℕ → ℕ → List ℕ
number_text close number = decimal number ++ close ∷ []

-- what each test of a further byte tells
record Further (most close number b : ℕ) (rest : List ℕ) : Type 0 where
  digit : is_ascii_digit b ≡ true
  pos : 0 < number
  within : 10 * number + (b - 48) ≤ most

data Tells (most close number b : ℕ) (rest : List ℕ) : Type 0 where
  closes : b ≡ close → digits_at most close number (b ∷ rest) ≡ Ok (number, rest) → Tells most close number b rest
  more : Further most close number b rest → Tells most close number b rest
  bad : (why : Reason) → ((other : List ℕ) → digits_at most close number (b ∷ other) ≡ Err (Wrong why (b ∷ other))) → Tells most close number b rest

tells : (most close number b : ℕ) (rest : List ℕ) → Tells most close number b rest
unfolding digits_at
tells most close number b rest =
    elim (eqb b close) as (λ t. eqb b close ≡ t → Tells most close number b rest) [
      | true ↦ λ same. closes (eqb-true b close same) (rw same refl)
      | false ↦ λ other. elim (is_ascii_digit b) as (λ t. is_ascii_digit b ≡ t → Tells most close number b rest) [
        | true ↦ λ digit. elim (ltb 0 number) as (λ t. ltb 0 number ≡ t → Tells most close number b rest) [
          | true ↦ λ pos. elim (leb (10 * number + (b - 48)) most) as (λ t. leb (10 * number + (b - 48)) most ≡ t → Tells most close number b rest) [
            | true ↦ λ within. more (record { digit = digit; pos = ltb-true 0 number pos; within = leb-true (10 * number + (b - 48)) most within })
            | false ↦ λ above. bad NumberTooLarge (λ later. rw (other, digit, pos, above) refl)
          ] refl
          | false ↦ λ none. bad Syntax (λ later. rw (other, digit, none) refl)
        ] refl
        | false ↦ λ none. bad Syntax (λ later. rw (other, none) refl)
      ] refl
    ] refl

digits_take : (most close number : ℕ) (bytes : List ℕ) (m : ℕ) (rest : List ℕ) → IsLimit most close → number ≤ most → digits_at most close number bytes ≡ Ok (m, rest)
    → (m ≤ most) × (decimal number ++ bytes ≡ number_text close m ++ rest)
digits_take most close number [] m rest limit le e = let h : ends ≡ done (m, rest) = (unfold digits_at in e) in absurd cc
digits_take most close number (b ∷ bytes) m rest limit le e =
    elim (tells most close number b bytes) [
      | closes same ok ↦
          let p : (number, bytes) ≡ (m, rest) = done_is (number, bytes) (m, rest) (sym ok ∙ e) in
          let one : decimal number ++ b ∷ bytes ≡ number_text close number ++ bytes = ap (λ (c : ℕ). decimal number ++ c ∷ bytes) same ∙ sym (append_assoc (decimal number) (close ∷ []) bytes) in
          subst (λ (x : ℕ × List ℕ). (x.0 ≤ most) × (decimal number ++ b ∷ bytes ≡ number_text close x.0 ++ x.1)) p (le, one)
      | more f ↦
          let r = digit_range b f.digit in
          let q = digits_take most close (10 * number + (b - 48)) bytes m rest limit f.within (sym (digits_more most close number b bytes limit f.digit f.pos f.within) ∙ e) in
          let one : decimal (10 * number + (b - 48)) ++ bytes ≡ decimal number ++ b ∷ bytes = ap (λ (t : List ℕ). t ++ bytes) (decimal_more number b f.pos r.0 r.1 (omega (arith, limit.high, f.within))) ∙ append_assoc (decimal number) (b ∷ []) bytes in
          (q.0, sym one ∙ q.1)
      | bad why w ↦ absurd (let h : wrong why (b ∷ bytes) ≡ done (m, rest) = sym (w bytes) ∙ e in cc)
    ]

digits_end : (most close number : ℕ) (bytes : List ℕ) → IsLimit most close → number ≤ most → digits_at most close number bytes ≡ Err Ends
    → IsFrontOf (AtMost most) (number_text close) (decimal number ++ bytes)
digits_end most close number [] limit le e = record {
  value = number;
  has = le;
  next = close;
  later = [];
  parts = ap (λ (t : List ℕ). t ++ close ∷ []) (sym (append-nil (decimal number)));
}
digits_end most close number (b ∷ bytes) limit le e =
    elim (tells most close number b bytes) [
      | closes same ok ↦ absurd (let h : done (number, bytes) ≡ ends = sym ok ∙ e in cc)
      | more f ↦
          let r = digit_range b f.digit in
          let one : decimal (10 * number + (b - 48)) ++ bytes ≡ decimal number ++ b ∷ bytes = ap (λ (t : List ℕ). t ++ bytes) (decimal_more number b f.pos r.0 r.1 (omega (arith, limit.high, f.within))) ∙ append_assoc (decimal number) (b ∷ []) bytes in
          subst (λ (t : List ℕ). IsFrontOf (AtMost most) (number_text close) t) one
          (digits_end most close (10 * number + (b - 48)) bytes limit f.within (sym (digits_more most close number b bytes limit f.digit f.pos f.within) ∙ e))
      | bad why w ↦ absurd (let h : wrong {A = ℕ} why (b ∷ bytes) ≡ ends = sym (w bytes) ∙ e in cc)
    ]

digits_stop : (most close number : ℕ) (bytes rest : List ℕ) (reason : Reason) → IsLimit most close → number ≤ most → digits_at most close number bytes ≡ Err (Wrong reason rest)
    → IsStopped (digits_at most close number) bytes rest
unfolding digits_at
digits_stop most close number [] rest reason limit le e = absurd cc
digits_stop most close number (b ∷ bytes) rest reason limit le e =
    elim (tells most close number b bytes) [
      | closes same ok ↦ absurd (let h : done (number, bytes) ≡ wrong reason rest = sym ok ∙ e in cc)
      | more f ↦
          let step : (other : List ℕ) → digits_at most close number (b ∷ other) ≡ digits_at most close (10 * number + (b - 48)) other = λ other. digits_more most close number b other limit f.digit f.pos f.within in
          stopped_behind (digits_at most close number) (digits_at most close (10 * number + (b - 48))) b bytes rest
          (digits_stop most close (10 * number + (b - 48)) bytes rest reason limit f.within (sym (step bytes) ∙ e))
          (λ other h. step other ∙ h) (λ other at why h. step other ∙ h)
      | bad why w ↦ stopped_at_once (digits_at most close number) b bytes rest why reason (sym (w bytes) ∙ e) refl w
    ]

number_none : (most close : ℕ) → number_at most close [] ≡ Err Ends
unfolding number_at
number_none most close = refl

pub digit_text : (b : ℕ) (bytes : List ℕ) → is_ascii_digit b ≡ true → decimal (b - 48) ++ bytes ≡ b ∷ bytes
digit_text b bytes d =
    let r = digit_range b d in
    let k : 48 + (b - 48) ≡ b = omega arith in
    ap (λ (t : List ℕ). t ++ bytes) (decimal_digit (b - 48) (omega arith)) ∙ ap (λ (n : ℕ). n ∷ bytes) k

-- what the test of a first byte tells
data TellsFirst (most close b : ℕ) : Type 0 where
  starts : is_ascii_digit b ≡ true → b - 48 ≤ most → TellsFirst most close b
  refused : (why : Reason) → ((other : List ℕ) → number_at most close (b ∷ other) ≡ Err (Wrong why (b ∷ other))) → TellsFirst most close b

tells_first : (most close b : ℕ) → TellsFirst most close b
unfolding number_at
tells_first most close b =
    elim (is_ascii_digit b) as (λ t. is_ascii_digit b ≡ t → TellsFirst most close b) [
      | true ↦ λ digit. elim (leb (b - 48) most) as (λ t. leb (b - 48) most ≡ t → TellsFirst most close b) [
        | true ↦ λ within. starts digit (leb-true (b - 48) most within)
        | false ↦ λ above. refused NumberTooLarge (λ other. rw (digit, above) refl)
      ] refl
      | false ↦ λ none. refused Syntax (λ other. rw none refl)
    ] refl

number_takes : (most close : ℕ) → IsLimit most close → (bytes : List ℕ) (m : ℕ) (rest : List ℕ) → number_at most close bytes ≡ Ok (m, rest) → (m ≤ most) × (bytes ≡ number_text close m ++ rest)
number_takes most close limit [] m rest e = absurd (let h : ends ≡ done (m, rest) = sym (number_none most close) ∙ e in cc)
number_takes most close limit (b ∷ bytes) m rest e =
    elim (tells_first most close b) [
      | starts d le ↦
          let p = digits_take most close (b - 48) bytes m rest limit le (sym (number_first most close b bytes d le) ∙ e) in
          (p.0, sym (digit_text b bytes d) ∙ p.1)
      | refused why w ↦ absurd (let h : wrong why (b ∷ bytes) ≡ done (m, rest) = sym (w bytes) ∙ e in cc)
    ]

number_ends : (most close : ℕ) → IsLimit most close → (bytes : List ℕ) → number_at most close bytes ≡ Err Ends → IsFrontOf (AtMost most) (number_text close) bytes
number_ends most close limit [] e = record { value = 0; has = omega arith; next = 48; later = close ∷ []; parts = ap (λ (t : List ℕ). t ++ close ∷ []) (decimal_digit 0 (omega arith)) }
number_ends most close limit (b ∷ bytes) e =
    elim (tells_first most close b) [
      | starts d le ↦
          subst (λ (t : List ℕ). IsFrontOf (AtMost most) (number_text close) t) (digit_text b bytes d)
          (digits_end most close (b - 48) bytes limit le (sym (number_first most close b bytes d le) ∙ e))
      | refused why w ↦ absurd (let h : wrong {A = ℕ} why (b ∷ bytes) ≡ ends = sym (w bytes) ∙ e in cc)
    ]

number_stops : (most close : ℕ) → IsLimit most close → (bytes rest : List ℕ) (reason : Reason) → number_at most close bytes ≡ Err (Wrong reason rest) → IsStopped (number_at most close) bytes rest
number_stops most close limit [] rest reason e = absurd (let h : ends {A = ℕ} ≡ wrong reason rest = sym (number_none most close) ∙ e in cc)
number_stops most close limit (b ∷ bytes) rest reason e =
    elim (tells_first most close b) [
      | starts d le ↦
          stopped_behind (number_at most close) (digits_at most close (b - 48)) b bytes rest
          (digits_stop most close (b - 48) bytes rest reason limit le (sym (number_first most close b bytes d le) ∙ e))
          (λ other h. number_first most close b other d le ∙ h) (λ other at why h. number_first most close b other d le ∙ h)
      | refused why w ↦ stopped_at_once (number_at most close) b bytes rest why reason (sym (w bytes) ∙ e) (number_none most close) w
    ]

pub number_code : (most close : ℕ) → IsLimit most close → IsCode (AtMost most) (number_text close) (number_at most close)
number_code most close limit = record {
  some = 0;
  some_valid = omega arith;
  takes = λ bytes m rest e. number_takes most close limit bytes m rest e;
  again = λ m rest le.
      ap (number_at most close) (append_assoc (decimal m) (close ∷ []) rest) ∙ number_goes most close m (close ∷ rest) limit le ∙ digits_closed most close m rest;
  ends = λ bytes e. number_ends most close limit bytes e;
  stops = λ bytes rest reason e. number_stops most close limit bytes rest reason e;
}

-- ---- numbers of positive counts

abbrev pub IsFrom : Bool → ℕ → ℕ → Type 0
IsFrom positive most number = (number ≤ most) × (positive ≡ true → 0 < number)

-- the first digit of a number that isn't 0
record NoZero (number : ℕ) (text : List ℕ) : Type 0 where
  first : 0 < number → (rest : List ℕ) → begins_with_zero (text ++ rest) ≡ false

no_zero_one : (n : ℕ) → n < 10 → NoZero n ((48 + n) ∷ [])
no_zero_one n lt = record { first = λ pos rest. ne_eqb (48 + n) 48 (omega arith) }

no_zero_more : (n : ℕ) (ds : List ℕ) → 10 ≤ n → NoZero (n / 10) ds → NoZero n (ds ++ ((48 + n % 10) ∷ []))
no_zero_more n ds le front = record {
  first = λ pos rest. ap begins_with_zero (append_assoc ds ((48 + n % 10) ∷ []) rest) ∙ front.first (omega arith) ((48 + n % 10) ∷ rest);
}

no_zero : (n : ℕ) → n < 2 ^ 64 → 0 < n → (rest : List ℕ) → begins_with_zero (decimal n ++ rest) ≡ false
no_zero n small pos rest = (decimal_by_steps NoZero no_zero_one no_zero_more n small).first pos rest

is_zero : (n : ℕ) (rest : List ℕ) → n ≡ 0 → begins_with_zero (decimal n ++ rest) ≡ true
is_zero n rest none = ap (λ (k : ℕ). begins_with_zero (decimal k ++ rest)) none ∙ ap (λ (t : List ℕ). begins_with_zero (t ++ rest)) (decimal_digit 0 (omega arith))

-- a text that doesn't begin with 0 is of a positive number
from_one : (close n : ℕ) (bytes rest : List ℕ) → bytes ≡ number_text close n ++ rest → begins_with_zero bytes ≡ false → 0 < n
from_one close zero bytes rest e none =
    absurd (let h : begins_with_zero bytes ≡ true = ap begins_with_zero (e ∙ append_assoc (decimal 0) (close ∷ []) rest) ∙ is_zero 0 (close ∷ rest) refl in cc)
from_one close (suc n) bytes rest e none = omega arith

still_front : (front : List ℕ) (next : ℕ) (later : List ℕ) → begins_with_zero (front ++ next ∷ later) ≡ false → begins_with_zero front ≡ false
still_front [] next later none = refl
still_front (b ∷ front) next later none = none

still_other : (front : List ℕ) (next : ℕ) (later other : List ℕ) → begins_with_zero (front ++ next ∷ later) ≡ false → begins_with_zero (front ++ next ∷ other) ≡ false
still_other [] next later other none = none
still_other (b ∷ front) next later other none = none

from_any : (most close : ℕ) (bytes : List ℕ) → number_from false most close bytes ≡ number_at most close bytes
unfolding number_from
from_any most close bytes = refl

from_some : (most close : ℕ) (bytes : List ℕ) → begins_with_zero bytes ≡ false → number_from true most close bytes ≡ number_at most close bytes
unfolding number_from
from_some most close bytes none = rw none refl

from_none : (most close : ℕ) (bytes : List ℕ) → begins_with_zero bytes ≡ true → number_from true most close bytes ≡ Err (Wrong Syntax bytes)
unfolding number_from
from_none most close bytes is = rw is refl

zero_or_not : {X : Type 0} (bytes : List ℕ) → (begins_with_zero bytes ≡ true → X) → (begins_with_zero bytes ≡ false → X) → X
zero_or_not {X} bytes f g = elim (begins_with_zero bytes) as (λ t. begins_with_zero bytes ≡ t → X) [ true ↦ f | false ↦ g ] refl

from_takes : (most close : ℕ) → IsLimit most close → (bytes : List ℕ) (m : ℕ) (rest : List ℕ) → number_from true most close bytes ≡ Ok (m, rest) → IsFrom true most m × (bytes ≡ number_text close m ++ rest)
from_takes most close limit bytes m rest e =
    zero_or_not bytes
    (λ is. absurd (let h : wrong Syntax bytes ≡ done (m, rest) = sym (from_none most close bytes is) ∙ e in cc))
    (λ none.
    let p = number_takes most close limit bytes m rest (sym (from_some most close bytes none) ∙ e) in
    ((p.0, λ positive. from_one close m bytes rest p.1 none), p.1))

from_ends : (most close : ℕ) → IsLimit most close → 0 < most → (bytes : List ℕ) → number_from true most close bytes ≡ Err Ends → IsFrontOf (IsFrom true most) (number_text close) bytes
from_ends most close limit some [] e = record {
  value = 1;
  has = (omega arith, λ positive. omega arith);
  next = 49;
  later = close ∷ [];
  parts = ap (λ (t : List ℕ). t ++ close ∷ []) (decimal_digit 1 (omega arith));
}
from_ends most close limit some (b ∷ bytes) e =
    zero_or_not (b ∷ bytes)
    (λ is. absurd (let h : wrong {A = ℕ} Syntax (b ∷ bytes) ≡ ends = sym (from_none most close (b ∷ bytes) is) ∙ e in cc))
    (λ none.
    let f = number_ends most close limit (b ∷ bytes) (sym (from_some most close (b ∷ bytes) none) ∙ e) in
    let begins : begins_with_zero (number_text close f.value) ≡ false = ap begins_with_zero f.parts ∙ none in
    record {
      value = f.value;
      has = (f.has, λ positive. from_one close f.value (number_text close f.value) [] (sym (append-nil (number_text close f.value))) begins);
      next = f.next;
      later = f.later;
      parts = f.parts;
    })

from_stops : (most close : ℕ) → IsLimit most close → (bytes rest : List ℕ) (reason : Reason) → number_from true most close bytes ≡ Err (Wrong reason rest) → IsStopped (number_from true most close) bytes rest
from_stops most close limit [] rest reason e =
    absurd (let h : ends {A = ℕ} ≡ wrong reason rest = sym (from_some most close [] refl ∙ number_none most close) ∙ e in cc)
from_stops most close limit (b ∷ bytes) rest reason e =
    zero_or_not (b ∷ bytes)
    (λ is. stopped_at_once (number_from true most close) b bytes rest Syntax reason (sym (from_none most close (b ∷ bytes) is) ∙ e) (from_some most close [] refl ∙ number_none most close)
    (λ other. from_none most close (b ∷ other) is))
    (λ none.
    let s = number_stops most close limit (b ∷ bytes) rest reason (sym (from_some most close (b ∷ bytes) none) ∙ e) in
    let split : begins_with_zero (s.front ++ s.next ∷ s.later) ≡ false = ap begins_with_zero (sym s.parts) ∙ none in
    record {
      front = s.front;
      next = s.next;
      later = s.later;
      parts = s.parts;
      rest_is = s.rest_is;
      goes = from_some most close s.front (still_front s.front s.next s.later split) ∙ s.goes;
      stays = λ other. let w = s.stays other in (w.0, from_some most close (s.front ++ s.next ∷ other) (still_other s.front s.next s.later other split) ∙ w.1);
    })

from_code : (most close : ℕ) → IsLimit most close → 0 < most → IsCode (IsFrom true most) (number_text close) (number_from true most close)
from_code most close limit some = record {
  some = 1;
  some_valid = (omega arith, λ positive. omega arith);
  takes = λ bytes m rest e. from_takes most close limit bytes m rest e;
  again = λ m rest v.
      let begins : begins_with_zero (number_text close m ++ rest) ≡ false =
      ap begins_with_zero (append_assoc (decimal m) (close ∷ []) rest) ∙ no_zero m (omega (arith, limit.high, v.0)) (v.1 refl) (close ∷ rest) in
      from_some most close (number_text close m ++ rest) begins ∙ (number_code most close limit).again m rest v.0;
  ends = λ bytes e. from_ends most close limit some bytes e;
  stops = λ bytes rest reason e. from_stops most close limit bytes rest reason e;
}

any_code : (most close : ℕ) → IsLimit most close → IsCode (IsFrom false most) (number_text close) (number_from false most close)
any_code most close limit =
    let code = number_code most close limit in
    record {
      some = 0;
      some_valid = (omega arith, λ positive. absurd cc);
      takes = λ bytes m rest e. let p = code.takes bytes m rest (sym (from_any most close bytes) ∙ e) in ((p.0, λ positive. absurd cc), p.1);
      again = λ m rest v. from_any most close (number_text close m ++ rest) ∙ code.again m rest v.0;
      ends = λ bytes e.
          let f = code.ends bytes (sym (from_any most close bytes) ∙ e) in
          record { value = f.value; has = (f.has, λ positive. absurd cc); next = f.next; later = f.later; parts = f.parts };
      stops = λ bytes rest reason e.
          let s = code.stops bytes rest reason (sym (from_any most close bytes) ∙ e) in
          record {
            front = s.front;
            next = s.next;
            later = s.later;
            parts = s.parts;
            rest_is = s.rest_is;
            goes = from_any most close s.front ∙ s.goes;
            stays = λ other. let w = s.stays other in (w.0, from_any most close (s.front ++ s.next ∷ other) ∙ w.1);
          };
    }

pub number_from_code : (positive : Bool) (most close : ℕ) → IsLimit most close → 0 < most → IsCode (IsFrom positive most) (number_text close) (number_from positive most close)
number_from_code true most close limit some = from_code most close limit some
number_from_code false most close limit some = any_code most close limit
