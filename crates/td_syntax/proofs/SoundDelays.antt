-- What the readers of names, numbers and lists of names take.
use Rattle.std.proofs.Common.{◌≡◌, ℕ, zero, suc, ◌+◌, ◌≤◌, Bool, true, false, not, cond, List, [], ◌∷◌, ◌++◌, length, Option, None, Some, Ok, Err, refl, sym, ap, subst, arith, inl, inr}
use Rattle.std.specs.Prelude.{◌==◌, nat_lt, codes}
use Rattle.std.proofs.lemmas.Bool.{ltb-false}
use Rattle.td_syntax.specs.declared.token.Symbol.{Symbol}
use Rattle.td_syntax.specs.declared.token.Symbol.TheVariants as symbol
use Rattle.td_syntax.specs.Token.{Token, Numeral, Name, Escaped, Reserved, Number, Constant, Mark, Attribute, Directs, Outside}
use Rattle.td_syntax.specs.Token.{Placed, placed_on}
use Rattle.td_syntax.specs.Grammar as grammar
use Rattle.td_syntax.proofs.Plain.{plain}
use Rattle.td_syntax.specs.Grammar.{IsSteps, IsStatedDelay, is_whole, steps_of}
use Rattle.td_syntax.specs.Faults.{Fault, OutOfSubset, ZeroDelay, DelayTooFine, DelayTooLarge, fault, refused, ◌>>=◌}
use Rattle.td_syntax.specs.Readers.{Remainder, More, Final, Done, is_mark, as_number, number_by, as_whole, whole_in, behind, refused_name, next_at, name_at, whole_at, maybe_mark_at, name_step, names_at}
use Rattle.td_syntax.specs.Parsing.{steps_from, steps_at, close_at, second_at, pair_at, bracketed_at, value_at, delay_by, delay_at}
use Rattle.td_syntax.proofs.Lists.{Shortens}
use Rattle.td_syntax.proofs.Takes.{Takes, takes_then, regrouped, bind_ok, chosen, done, ok_is, err_is_no_ok, taken, next_takes, Classifies, take_takes, name_takes, mark_taken, if_mark, maybe_mark_takes, MemberTakes, behind_never, behind_more, behind_final, AllFrom, gates_from, list_takes, list_shortens}

-- ---- names

abbrev pub Any : {A : Type 0} → ℕ → A → Type 0
Any k a = Unit {0}

abbrev pub no_gates : {A : Type 0} → ℕ → A → ℕ
no_gates k a = 0

pub name_member : (end : Symbol) → MemberTakes (name_step end) grammar.name Any Any no_gates no_gates (grammar.mark end)
unfolding name_step
name_member end = record {
  more = λ k s a rest e.
      let m = bind_ok (name_at s) (λ n. behind end n.0 n.1) (More a, rest) e in
      ((behind_more grammar.name end s m.0.0 0 m.0.1 a rest (name_takes s m.0 m.1) m.2).1, tt);
  final = λ k s a rest e.
      let m = bind_ok (name_at s) (λ n. behind end n.0 n.1) (Final a, rest) e in
      ((behind_final grammar.name end s m.0.0 0 m.0.1 a rest (name_takes s m.0 m.1) m.2).1, tt);
  never = λ k s rest e.
      let m = bind_ok (name_at s) (λ n. behind end n.0 n.1) (Done, rest) e in
      behind_never end m.0.0 m.0.1 rest m.2;
}

pub names_shorten : (end : Symbol) → Shortens (name_step end)
names_shorten end = list_shortens (name_step end) grammar.name Any Any no_gates no_gates (grammar.mark end) (name_member end)

pub any_gates : {A : Type 0} (k : ℕ) (xs : List A) → gates_from no_gates no_gates k xs ≡ 0
any_gates k [] = refl
any_gates k (a ∷ []) = refl
any_gates k (a ∷ b ∷ bs) = rw (any_gates (k + 1) (b ∷ bs)) refl

any_some : {A : Type 0} (k : ℕ) (xs : List A) → AllFrom Any Any k xs → 1 ≤ length xs
any_some k [] h = absurd h
any_some k (a ∷ others) h = omega arith

pub names_take : (end : Symbol) (s : Remainder) (y : List grammar.Name × Remainder) → names_at end s ≡ Ok y → Takes s (grammar.separated grammar.name y.0 ++ grammar.mark end) 0 y.1 × (1 ≤ length y.0)
unfolding names_at
names_take end s y e =
    let l = list_takes (name_step end) grammar.name Any Any no_gates no_gates (grammar.mark end) (name_member end) 0 s y e in
    (regrouped s _ _ _ 0 y.1 refl (any_gates 0 y.0) l.takes, any_some 0 y.0 l.holds)

-- ---- numbers

stable_whole : (l : ℕ) (t : Token) → as_whole (placed_on l t) ≡ as_whole (plain (placed_on l t))
stable_whole l (Name w) = refl
stable_whole l (Escaped w) = refl
stable_whole l (Reserved k) = refl
stable_whole l (Number n) = refl
stable_whole l (Constant b w) = refl
stable_whole l (Mark m) = refl
stable_whole l Attribute = refl
stable_whole l (Directs d w) = refl
stable_whole l (Outside w) = refl

whole_is : (w : List ℕ) (f : Option (List ℕ)) (v : List ℕ) → whole_in w f ≡ Some v → grammar.number (record { whole = w; fraction = f }) ≡ grammar.whole v
whole_is w None v e = let same : w ≡ v = cc in ap (λ (x : List ℕ). grammar.whole x) same
whole_is w (Some f) v e = absurd cc

spelled_whole : (l : ℕ) (t : Token) (v : List ℕ) → as_whole (placed_on l t) ≡ Some v → plain (placed_on l t) ∷ [] ≡ grammar.whole v
spelled_whole l (Number n) v e = whole_is n.whole n.fraction v e
spelled_whole l (Name w) v e = absurd cc
spelled_whole l (Escaped w) v e = absurd cc
spelled_whole l (Reserved k) v e = absurd cc
spelled_whole l (Constant b w) v e = absurd cc
spelled_whole l (Mark m) v e = absurd cc
spelled_whole l Attribute v e = absurd cc
spelled_whole l (Directs d w) v e = absurd cc
spelled_whole l (Outside w) v e = absurd cc

pub wholes_classified : Classifies as_whole grammar.whole
wholes_classified = record { stable = λ p. stable_whole p.line p.token; spelled = λ p v e. spelled_whole p.line p.token v e }

pub whole_takes : (s : Remainder) (x : List ℕ × Remainder) → whole_at s ≡ Ok x → Takes s (grammar.whole x.0) 0 x.1
unfolding whole_at
whole_takes s x e = take_takes as_whole grammar.whole refused wholes_classified s x e

-- ---- delays

number_spelled : (l : ℕ) (t : Token) (n : Numeral) → number_by t ≡ Some n → plain (placed_on l t) ∷ [] ≡ grammar.number n
number_spelled l (Number m) n e = let same : m ≡ n = cc in ap grammar.number same
number_spelled l (Name w) n e = absurd cc
number_spelled l (Escaped w) n e = absurd cc
number_spelled l (Reserved k) n e = absurd cc
number_spelled l (Constant b w) n e = absurd cc
number_spelled l (Mark k) n e = absurd cc
number_spelled l Attribute n e = absurd cc
number_spelled l (Directs d w) n e = absurd cc
number_spelled l (Outside w) n e = absurd cc

pub positive : (n : ℕ) → (n == 0) ≡ false → 1 ≤ n
positive zero e = absurd cc
positive (suc n) e = omega arith

not_false : (b : Bool) → not b ≡ false → b ≡ true
not_false true e = refl
not_false false e = absurd cc

steps_is : (tens line : ℕ) (n : Numeral) (rest : Remainder) (x : Numeral × Remainder) (a b c : Bool) → not (is_whole tens n) ≡ a → (steps_of tens n == 0) ≡ b → nat_lt 1000000000 (steps_of tens n) ≡ c
    → cond a (Err (fault DelayTooFine line)) (cond b (Err (fault ZeroDelay line)) (cond c (Err (fault DelayTooLarge line)) (done (n, rest)))) ≡ Ok x → (n ≡ x.0) × (rest ≡ x.1) × IsSteps tens n
steps_is tens line n rest x true b c o p q e = absurd (err_is_no_ok _ x (sym e))
steps_is tens line n rest x false true c o p q e = absurd (err_is_no_ok _ x (sym e))
steps_is tens line n rest x false false true o p q e = absurd (err_is_no_ok _ x (sym e))
steps_is tens line n rest x false false false o p q e =
    let same = ok_is (n, rest) x e in
    let low : 1 ≤ steps_of tens n = positive (steps_of tens n) p in
    (ap (λ (y : Numeral × Remainder). y.0) same, ap (λ (y : Numeral × Remainder). y.1) same, record { whole = not_false (is_whole tens n) o; within = (low, ltb-false _ _ q) })

steps_from_is : (tens : ℕ) (p : Placed) (rest : Remainder) (o : Option Numeral) (x : Numeral × Remainder) → steps_from tens p rest o ≡ Ok x → (o ≡ Some x.0) × (rest ≡ x.1) × IsSteps tens x.0
steps_from_is tens p rest None x e = absurd (err_is_no_ok _ x (sym e))
steps_from_is tens p rest (Some n) x e =
    let h = steps_is tens p.line n rest x (not (is_whole tens n)) (steps_of tens n == 0) (nat_lt 1000000000 (steps_of tens n)) refl refl refl e in
    (ap (λ (m : Numeral). Some m) h.0, h.1, subst (IsSteps tens) h.0 h.2)

pub steps_takes : (tens : ℕ) (s : Remainder) (x : Numeral × Remainder) → steps_at tens s ≡ Ok x → Takes s (grammar.number x.0) 0 x.1 × IsSteps tens x.0
unfolding steps_at
steps_takes tens s x e =
    let b = bind_ok (next_at s) (λ p. steps_from tens p.0 p.1 (as_number p.0)) x e in
    let h = steps_from_is tens b.0.0 b.0.1 (as_number b.0.0) x b.2 in
    let t = next_takes s b.0 b.1 in
    (subst (λ (u : Remainder). Takes s (grammar.number x.0) 0 u) h.1 (regrouped s _ _ 0 0 b.0.1 (number_spelled b.0.0.line b.0.0.token x.0 h.0) refl t), h.2)

close_takes : (s rest : Remainder) → close_at s ≡ Ok rest → Takes s (grammar.mark symbol.Close) 0 rest
unfolding close_at
close_takes s rest e =
    let b = bind_ok (next_at s) (λ p. cond (is_mark symbol.Close p.0.token) (Ok p.1) (cond (is_mark symbol.Comma p.0.token) (Err (fault (OutOfSubset (codes ",")) p.0.line)) (Err (refused_name p.0)))) rest e in
    elim (chosen (is_mark symbol.Close b.0.0.token) (done b.0.1) (cond (is_mark symbol.Comma b.0.0.token) (Err (fault (OutOfSubset (codes ",")) b.0.0.line)) (Err (refused_name b.0.0))) (Ok rest) b.2) [
      | inl h ↦ subst (λ (u : Remainder). Takes s (grammar.mark symbol.Close) 0 u) (ok_is b.0.1 rest h.1) (mark_taken symbol.Close s b.0 b.1 h.0)
      | inr h ↦ let t = taken_neither (is_mark symbol.Comma b.0.0.token) _ _ rest h.1 in absurd t
    ]
  where
    taken_neither : {A : Type 0} (b : Bool) (f g : Fault) (y : A) → cond b (Err f) (Err g) ≡ done y → ⊥
    taken_neither true f g y e = err_is_no_ok f y (sym e)
    taken_neither false f g y e = err_is_no_ok g y (sym e)

abbrev second_text : Bool → List Placed
second_text true = grammar.mark symbol.Comma
second_text false = grammar.mark symbol.Close

second_takes : (s : Remainder) (x : Bool × Remainder) → second_at s ≡ Ok x → Takes s (second_text x.0) 0 x.1
unfolding second_at
second_takes s x e =
    let b = bind_ok (next_at s) (λ p. cond (is_mark symbol.Comma p.0.token) (Ok (true, p.1)) (cond (is_mark symbol.Close p.0.token) (Ok (false, p.1)) (Err (refused_name p.0)))) x e in
    elim (chosen (is_mark symbol.Comma b.0.0.token) (done (true, b.0.1)) (cond (is_mark symbol.Close b.0.0.token) (Ok (false, b.0.1)) (Err (refused_name b.0.0))) (Ok x) b.2) [
      | inl h ↦ subst (λ (y : Bool × Remainder). Takes s (second_text y.0) 0 y.1) (ok_is (true, b.0.1) x h.1) (mark_taken symbol.Comma s b.0 b.1 h.0)
      | inr h ↦
          let t = taken (is_mark symbol.Close b.0.0.token) (Ok (false, b.0.1)) (refused_name b.0.0) x h.1 in
          subst (λ (y : Bool × Remainder). Takes s (second_text y.0) 0 y.1) (ok_is (false, b.0.1) x t.1) (mark_taken symbol.Close s b.0 b.1 t.0)
    ]

-- what follows the `#(`
abbrev pub inside : grammar.Delay → List Placed
inside (grammar.Plain n) = grammar.number n
inside (grammar.Single n) = grammar.number n ++ grammar.mark symbol.Close
inside (grammar.RiseFall n m) = grammar.number n ++ grammar.mark symbol.Comma ++ grammar.number m ++ grammar.mark symbol.Close

-- in brackets
abbrev pub IsBracketed : ℕ → grammar.Delay → Type 0
IsBracketed tens (grammar.Plain n) = ⊥
IsBracketed tens (grammar.Single n) = IsSteps tens n
IsBracketed tens (grammar.RiseFall n m) = IsSteps tens n × IsSteps tens m

abbrev Bracketed : ℕ → Remainder → grammar.Delay × Remainder → Type 0
Bracketed tens s x = Takes s (inside x.0) 0 x.1 × IsBracketed tens x.0

pair_takes : (tens : ℕ) (s : Remainder) (first : Numeral) (mid : Remainder) (b : Bool) (u : Remainder) (x : grammar.Delay × Remainder) → Takes s (grammar.number first) 0 mid → IsSteps tens first → Takes mid (second_text b) 0 u → pair_at tens first (b, u) ≡ Ok x → Bracketed tens s x
pair_takes tens s first mid true u x t h comma e =
    let a = bind_ok (steps_at tens u) (λ second. close_at second.1 >>= λ rest. Ok (grammar.RiseFall first second.0, rest)) x e in
    let b = bind_ok (close_at a.0.1) (λ rest. Ok (grammar.RiseFall first a.0.0, rest)) x a.2 in
    let second = steps_takes tens u a.0 a.1 in
    let t1 = takes_then s (grammar.number first) 0 mid (grammar.mark symbol.Comma) 0 u t comma in
    let t2 = takes_then s _ 0 u (grammar.number a.0.0) 0 a.0.1 t1 second.0 in
    let t3 = takes_then s _ 0 a.0.1 (grammar.mark symbol.Close) 0 b.0 t2 (close_takes a.0.1 b.0 b.1) in
    subst (Bracketed tens s) (ok_is (grammar.RiseFall first a.0.0, b.0) x b.2) (t3, (h, second.1))
pair_takes tens s first mid false u x t h close e =
    subst (Bracketed tens s) (ok_is (grammar.Single first, u) x e) (takes_then s (grammar.number first) 0 mid (grammar.mark symbol.Close) 0 u t close, h)

bracketed_takes : (tens : ℕ) (s : Remainder) (x : grammar.Delay × Remainder) → bracketed_at tens s ≡ Ok x → Bracketed tens s x
unfolding bracketed_at
bracketed_takes tens s x e =
    let a = bind_ok (steps_at tens s) (λ first. second_at first.1 >>= pair_at tens first.0) x e in
    let b = bind_ok (second_at a.0.1) (pair_at tens a.0.0) x a.2 in
    let first = steps_takes tens s a.0 a.1 in
    pair_takes tens s a.0.0 a.0.1 b.0.0 b.0.1 x first.0 first.1 (second_takes a.0.1 b.0 b.1) b.2

-- a delay in brackets with the # and the ( before it
delay_of : (tens : ℕ) (d : grammar.Delay) → IsBracketed tens d → grammar.mark symbol.Hash ++ (grammar.mark symbol.Open ++ inside d) ≡ grammar.delay (Some d)
delay_of tens (grammar.Plain n) h = absurd h
delay_of tens (grammar.Single n) h = refl
delay_of tens (grammar.RiseFall n m) h = refl

bracketed_delay : (tens : ℕ) (d : grammar.Delay) → IsBracketed tens d → IsStatedDelay tens (Some d)
bracketed_delay tens (grammar.Plain n) h = absurd h
bracketed_delay tens (grammar.Single n) h = h
bracketed_delay tens (grammar.RiseFall n m) h = h

abbrev HasValue : ℕ → Remainder → grammar.Delay × Remainder → Type 0
HasValue tens s x = Takes s (grammar.delay (Some x.0)) 0 x.1 × IsStatedDelay tens (Some x.0)

value_takes : (tens : ℕ) (s mid : Remainder) (b : Bool) (u : Remainder) (x : grammar.Delay × Remainder) → Takes s (grammar.mark symbol.Hash) 0 mid → Takes mid (if_mark symbol.Open b) 0 u → value_at tens (b, u) ≡ Ok x → HasValue tens s x
value_takes tens s mid true u x hash opens e =
    let d = bracketed_takes tens u x e in
    let t = takes_then s (grammar.mark symbol.Hash) 0 mid (grammar.mark symbol.Open ++ inside x.0) 0 x.1 hash (takes_then mid (grammar.mark symbol.Open) 0 u (inside x.0) 0 x.1 opens d.0) in
    (regrouped s _ _ 0 0 x.1 (delay_of tens x.0 d.1) refl t, bracketed_delay tens x.0 d.1)
value_takes tens s mid false u x hash opens e =
    let n = bind_ok (steps_at tens u) (λ n. Ok (grammar.Plain n.0, n.1)) x e in
    let h = steps_takes tens u n.0 n.1 in
    let t = takes_then s (grammar.mark symbol.Hash) 0 mid [] 0 u hash opens in
    subst (HasValue tens s) (ok_is (grammar.Plain n.0.0, n.0.1) x n.2) (takes_then s (grammar.mark symbol.Hash) 0 u (grammar.number n.0.0) 0 n.0.1 t h.0, h.1)

abbrev pub HasDelay : ℕ → Remainder → Option grammar.Delay × Remainder → Type 0
HasDelay tens s x = Takes s (grammar.delay x.0) 0 x.1 × IsStatedDelay tens x.0

delay_by_takes : (tens : ℕ) (s : Remainder) (b : Bool) (u : Remainder) (x : Option grammar.Delay × Remainder) → Takes s (if_mark symbol.Hash b) 0 u → delay_by tens (b, u) ≡ Ok x → HasDelay tens s x
delay_by_takes tens s true u x hash e =
    let d = bind_ok (maybe_mark_at symbol.Open u >>= value_at tens) (λ d. Ok (Some d.0, d.1)) x e in
    let a = bind_ok (maybe_mark_at symbol.Open u) (value_at tens) d.0 d.1 in
    subst (HasDelay tens s) (ok_is (Some d.0.0, d.0.1) x d.2) (value_takes tens s u a.0.0 a.0.1 d.0 hash (maybe_mark_takes symbol.Open u a.0 a.1) a.2)
delay_by_takes tens s false u x hash e =
    let none : Option grammar.Delay = None in
    subst (HasDelay tens s) (ok_is (none, u) x e) (hash, tt)

pub delay_takes : (tens : ℕ) (s : Remainder) (x : Option grammar.Delay × Remainder) → delay_at tens s ≡ Ok x → HasDelay tens s x
unfolding delay_at
delay_takes tens s x e =
    let b = bind_ok (maybe_mark_at symbol.Hash s) (delay_by tens) x e in
    delay_by_takes tens s b.0.0 b.0.1 x (maybe_mark_takes symbol.Hash s b.0 b.1) b.2
