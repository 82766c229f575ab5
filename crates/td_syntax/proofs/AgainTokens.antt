-- What the grammar derives is read: single tokens, and lists.
use Rattle.std.proofs.Common.{◌≡◌, ℕ, ◌+◌, ◌≤◌, true, false, List, [], ◌∷◌, ◌++◌, length, map, Option, None, Some, Result, Ok, refl, ap, ◌∙◌, arith, append_assoc}
use Rattle.td_syntax.specs.declared.token.Symbol.{Symbol}
use Rattle.td_syntax.specs.declared.token.Symbol.TheVariants as symbol
use Rattle.td_syntax.specs.declared.token.Stop.{Stop}
use Rattle.td_syntax.specs.Token.{Token, Name, Escaped, Reserved, Number, Constant, Mark, Attribute, Directs, Outside}
use Rattle.td_syntax.specs.Token.{Placed, placed_on}
use Rattle.td_syntax.specs.Tokens.{front_of, rest_of}
use Rattle.td_syntax.specs.Grammar as grammar
use Rattle.td_syntax.proofs.Plain.{plain}
use Rattle.td_syntax.specs.Faults.{Fault, refused}
use Rattle.td_syntax.specs.Readers.{Remainder, behind_front, ListStep, More, Final, is_mark, as_name, as_whole, behind, next_at, name_at, whole_at, take_at, maybe_at, mark_at, maybe_mark_at, separator_at, name_step, names_at, many_from}
use Rattle.td_syntax.proofs.Lists.{Shortens, unrolled}
use Rattle.td_syntax.proofs.Takes.{Classifies, names_classified, MemberTakes, AllFrom, gates_from}
use Rattle.td_syntax.proofs.SoundDelays.{Any, no_gates, any_gates, name_member, names_shorten, wholes_classified}

-- what reading gives x and leaves these tokens
pub record Reads {A : Type 0} (read : Result (A × Remainder) Fault) (x : A) (more : List Placed) : Type 0 where
  pub rest : Remainder
  pub gives : read ≡ Ok (x, rest)
  pub tokens : map plain rest.stream.tokens ≡ more

-- the same where nothing is kept
pub record Passes (read : Result Remainder Fault) (more : List Placed) : Type 0 where
  pub rest : Remainder
  pub gives : read ≡ Ok rest
  pub tokens : map plain rest.stream.tokens ≡ more

abbrev pub Begins : Remainder → List Placed → Type 0
Begins s text = map plain s.stream.tokens ≡ text

-- ---- one token

-- t is the token in front
pub record Fronts (s : Remainder) (t : Placed) (more : List Placed) : Type 0 where
  pub placed : Placed
  pub gives : next_at s ≡ Ok (placed, behind_front s)
  pub same : plain placed ≡ t
  pub tokens : Begins (behind_front s) more

fronts_in : (ts : List Placed) (stop : Stop) (line gates : ℕ) (t : Placed) (more : List Placed) → map plain ts ≡ t ∷ more
    → Fronts (record { stream = record { tokens = ts; stop = stop; line = line }; gates = gates }) t more
unfolding next_at front_of rest_of
fronts_in [] stop line gates t more e = absurd cc
fronts_in (u ∷ us) stop line gates t more e = record { placed = u; gives = refl; same = cc; tokens = cc }

pub in_front : (s : Remainder) (t : Placed) (more : List Placed) → Begins s (t ∷ more) → Fronts s t more
in_front s t more e = fronts_in s.stream.tokens s.stream.stop s.stream.line s.gates t more e

pub take_again : {A : Type 0} (find : Placed → Option A) (spell : A → List Placed) (refuse : Placed → Fault) → Classifies find spell
    → (s : Remainder) (t : Placed) (a : A) (more : List Placed) → find t ≡ Some a → Begins s (t ∷ more) → Reads (take_at find refuse s) a more
unfolding take_at
take_again find spell refuse c s t a more is e =
    let f = in_front s t more e in
    let found : find f.placed ≡ Some a = c.stable f.placed ∙ ap find f.same ∙ is in
    record { rest = behind_front s; gives = rw (f.gives, found) refl; tokens = f.tokens }

pub maybe_again : {A : Type 0} (find : Placed → Option A) (spell : A → List Placed) → Classifies find spell
    → (s : Remainder) (t : Placed) (a : A) (more : List Placed) → find t ≡ Some a → Begins s (t ∷ more) → Reads (maybe_at find s) (Some a) more
unfolding maybe_at
maybe_again find spell c s t a more is e =
    let f = in_front s t more e in
    let found : find f.placed ≡ Some a = c.stable f.placed ∙ ap find f.same ∙ is in
    record { rest = behind_front s; gives = rw (f.gives, found) refl; tokens = f.tokens }

pub maybe_not : {A : Type 0} (find : Placed → Option A) (spell : A → List Placed) → Classifies find spell
    → (s : Remainder) (t : Placed) (more : List Placed) → find t ≡ None → Begins s (t ∷ more) → Reads (maybe_at find s) None (t ∷ more)
unfolding maybe_at
maybe_not find spell c s t more is e =
    let f = in_front s t more e in
    let found : find f.placed ≡ None = c.stable f.placed ∙ ap find f.same ∙ is in
    record { rest = s; gives = rw (f.gives, found) refl; tokens = e }

pub name_again : (s : Remainder) (n : grammar.Name) (more : List Placed) → Begins s (grammar.name n ++ more) → Reads (name_at s) n more
unfolding name_at
name_again s n more e = take_again as_name grammar.name refused names_classified s (placed_on n.line (Name n.name)) n more refl e

pub whole_again : (s : Remainder) (digits : List ℕ) (more : List Placed) → Begins s (grammar.whole digits ++ more) → Reads (whole_at s) digits more
unfolding whole_at
whole_again s digits more e = take_again as_whole grammar.whole refused wholes_classified s (placed_on 0 (Number (grammar.whole_number digits))) digits more refl e

mark_plain_by : (m : Symbol) (l : ℕ) (t : Token) → is_mark m t ≡ is_mark m (plain (placed_on l t)).token
mark_plain_by m l (Name w) = refl
mark_plain_by m l (Escaped w) = refl
mark_plain_by m l (Reserved k) = refl
mark_plain_by m l (Number n) = refl
mark_plain_by m l (Constant b w) = refl
mark_plain_by m l (Mark n) = refl
mark_plain_by m l Attribute = refl
mark_plain_by m l (Directs d w) = refl
mark_plain_by m l (Outside w) = refl

pub mark_plain : (m : Symbol) (p t : Placed) → plain p ≡ t → is_mark m p.token ≡ is_mark m t.token
mark_plain m p t e = mark_plain_by m p.line p.token ∙ ap (λ (q : Placed). is_mark m q.token) e

pub same_code : (m : Symbol) → is_mark m (Mark m) ≡ true
same_code symbol.Open = refl
same_code symbol.Close = refl
same_code symbol.Comma = refl
same_code symbol.Semicolon = refl
same_code symbol.Hash = refl
same_code symbol.LeftBracket = refl
same_code symbol.RightBracket = refl
same_code symbol.Colon = refl

pub mark_again : (m : Symbol) (s : Remainder) (more : List Placed) → Begins s (grammar.mark m ++ more) → Passes (mark_at m s) more
unfolding mark_at
mark_again m s more e =
    let f = in_front s (placed_on 0 (Mark m)) more e in
    record { rest = behind_front s; gives = rw (f.gives, mark_plain m f.placed (placed_on 0 (Mark m)) f.same, same_code m) refl; tokens = f.tokens }

pub maybe_mark_again : (m : Symbol) (s : Remainder) (more : List Placed) → Begins s (grammar.mark m ++ more) → Reads (maybe_mark_at m s) true more
unfolding maybe_mark_at
maybe_mark_again m s more e =
    let f = in_front s (placed_on 0 (Mark m)) more e in
    record { rest = behind_front s; gives = rw (f.gives, mark_plain m f.placed (placed_on 0 (Mark m)) f.same, same_code m) refl; tokens = f.tokens }

pub maybe_mark_not : (m : Symbol) (s : Remainder) (t : Placed) (more : List Placed) → is_mark m t.token ≡ false → Begins s (t ∷ more) → Reads (maybe_mark_at m s) false (t ∷ more)
unfolding maybe_mark_at
maybe_mark_not m s t more other e =
    let f = in_front s t more e in
    record { rest = s; gives = rw (f.gives, mark_plain m f.placed t f.same, other) refl; tokens = e }

-- ---- lists

pub comma_again : {A : Type 0} (end : Symbol) (a : A) (s : Remainder) (more : List Placed) → Begins s (grammar.mark symbol.Comma ++ more) → Reads (behind end a s) (More a) more
unfolding separator_at
comma_again end a s more e =
    let f = in_front s (placed_on 0 (Mark symbol.Comma)) more e in
    record { rest = behind_front s; gives = rw (f.gives, mark_plain symbol.Comma f.placed _ f.same) refl; tokens = f.tokens }

pub end_again : {A : Type 0} (end : Symbol) (a : A) (s : Remainder) (more : List Placed) → is_mark symbol.Comma (Mark end) ≡ false → Begins s (grammar.mark end ++ more) → Reads (behind end a s) (Final a) more
unfolding separator_at
end_again end a s more other e =
    let f = in_front s (placed_on 0 (Mark end)) more e in
    record { rest = behind_front s; gives = rw (f.gives, mark_plain symbol.Comma f.placed _ f.same, other, mark_plain end f.placed _ f.same, same_code end) refl; tokens = f.tokens }

-- a step that reads what a member is spelled by
pub record MemberAgain {A : Type 0} (step : ℕ → Remainder → Result (ListStep A × Remainder) Fault) (spell : A → List Placed) (P Q : ℕ → A → Type 0) (g h : ℕ → A → ℕ) (closing : List Placed) : Type 0 where
  pub more : (k : ℕ) (s : Remainder) (a : A) (tail : List Placed) → P k a → s.gates + g k a ≤ 200000 → Begins s (spell a ++ (grammar.mark symbol.Comma ++ tail)) → Reads (step k s) (More a) tail
  pub final : (k : ℕ) (s : Remainder) (a : A) (tail : List Placed) → Q k a → s.gates + h k a ≤ 200000 → Begins s (spell a ++ (closing ++ tail)) → Reads (step k s) (Final a) tail

name_again_member : (end : Symbol) → is_mark symbol.Comma (Mark end) ≡ false → MemberAgain (name_step end) grammar.name Any Any no_gates no_gates (grammar.mark end)
unfolding name_step
name_again_member end other = record {
  more = λ k s a tail p le e.
      let n = name_again s a (grammar.mark symbol.Comma ++ tail) e in
      let b = comma_again end a n.rest tail n.tokens in
      record { rest = b.rest; gives = rw n.gives b.gives; tokens = b.tokens };
  final = λ k s a tail p le e.
      let n = name_again s a (grammar.mark end ++ tail) e in
      let b = end_again end a n.rest tail other n.tokens in
      record { rest = b.rest; gives = rw n.gives b.gives; tokens = b.tokens };
}

pub group4 : (a b c d : List Placed) → a ++ b ++ c ++ d ≡ a ++ (b ++ (c ++ d))
group4 a b c d = simp append_assoc

pub group5 : (a b c d e : List Placed) → a ++ b ++ c ++ d ++ e ≡ a ++ (b ++ (c ++ (d ++ e)))
group5 a b c d e = simp append_assoc

module _ {A : Type 0} (step : ℕ → Remainder → Result (ListStep A × Remainder) Fault) (shortens : Shortens step) (spell : A → List Placed) (P Q : ℕ → A → Type 0) (g h : ℕ → A → ℕ) (closing : List Placed)
    (takes : MemberTakes step spell P Q g h closing) (again : MemberAgain step spell P Q g h closing) where
  pub list_again : (k : ℕ) (xs : List A) (s : Remainder) (tail : List Placed) → AllFrom P Q k xs → s.gates + gates_from g h k xs ≤ 200000 → Begins s (grammar.separated spell xs ++ (closing ++ tail)) → Reads (many_from step k s) xs tail
  unfolding grammar.separated
  list_again k [] s tail holds le e = absurd holds
  list_again k (a ∷ []) s tail holds le e =
      let r = again.final k s a tail holds le e in
      record { rest = r.rest; gives = rw (unrolled step shortens k s, r.gives) refl; tokens = r.tokens }
  list_again k (a ∷ b ∷ bs) s tail holds le e =
      let split : Begins s (spell a ++ (grammar.mark symbol.Comma ++ (grammar.separated spell (b ∷ bs) ++ (closing ++ tail)))) = e ∙ group4 (spell a) (grammar.mark symbol.Comma) (grammar.separated spell (b ∷ bs)) (closing ++ tail) in
      let r = again.more k s a (grammar.separated spell (b ∷ bs) ++ (closing ++ tail)) holds.0 (omega (arith, le)) split in
      let t = takes.more k s a r.rest r.gives in
      let others = list_again (k + 1) (b ∷ bs) r.rest tail holds.1 (omega (arith, le, t.0.counted)) r.tokens in
      record { rest = others.rest; gives = rw (unrolled step shortens k s, r.gives, others.gives) refl; tokens = others.tokens }

pub any_all : {A : Type 0} (k : ℕ) (xs : List A) → 1 ≤ length xs → AllFrom Any Any k xs
any_all k [] some = absurd (omega arith)
any_all k (x ∷ []) some = tt
any_all k (x ∷ y ∷ ys) some = (tt, any_all (k + 1) (y ∷ ys) (omega arith))

pub names_again : (end : Symbol) → is_mark symbol.Comma (Mark end) ≡ false → (ns : List grammar.Name) (s : Remainder) (tail : List Placed) → s.gates ≤ 200000 → 1 ≤ length ns → Begins s (grammar.separated grammar.name ns ++ (grammar.mark end ++ tail)) → Reads (names_at end s) ns tail
unfolding names_at
names_again end other ns s tail le some e =
    list_again (name_step end) (names_shorten end) grammar.name Any Any no_gates no_gates (grammar.mark end) (name_member end) (name_again_member end other) 0 ns s tail (any_all 0 ns some) (omega (arith, le, any_gates 0 ns)) e
