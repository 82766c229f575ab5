-- Delays that the grammar derives are read.
use Rattle.std.proofs.Common.{◌≡◌, ℕ, zero, suc, ◌≤◌, true, false, List, ◌∷◌, ◌++◌, Option, None, Some, refl, ap, ◌∙◌, arith}
use Rattle.std.specs.Prelude.{◌==◌}
use Rattle.std.proofs.lemmas.Bool.{le-ltb}
use Rattle.std.proofs.Math.Dec.{eqb-suc-zero}
use Rattle.td_syntax.specs.declared.token.Symbol.TheVariants as symbol
use Rattle.td_syntax.specs.Token.{Token, Numeral, Name, Escaped, Reserved, Number, Constant, Mark, Attribute, Directs, Outside}
use Rattle.td_syntax.specs.Token.{Placed, placed_on}
use Rattle.td_syntax.specs.Grammar as grammar
use Rattle.td_syntax.proofs.Plain.{plain}
use Rattle.td_syntax.specs.Grammar.{IsSteps, IsStatedDelay, steps_of}
use Rattle.td_syntax.specs.Readers.{Remainder, behind_front, is_mark, as_number, number_by}
use Rattle.td_syntax.specs.Parsing.{steps_at, close_at, second_at, bracketed_at, delay_at}
use Rattle.td_syntax.proofs.AgainTokens.{Reads, Passes, Begins, in_front, mark_plain, maybe_mark_again, maybe_mark_not}

number_plain : (l : ℕ) (t : Token) → number_by t ≡ number_by (plain (placed_on l t)).token
number_plain l (Name w) = refl
number_plain l (Escaped w) = refl
number_plain l (Reserved k) = refl
number_plain l (Number n) = refl
number_plain l (Constant b w) = refl
number_plain l (Mark m) = refl
number_plain l Attribute = refl
number_plain l (Directs d w) = refl
number_plain l (Outside w) = refl

not_zero : (n : ℕ) → 1 ≤ n → (n == 0) ≡ false
not_zero zero le = absurd (omega arith)
not_zero (suc n) le = eqb-suc-zero n

steps_again : (tens : ℕ) (s : Remainder) (n : Numeral) (more : List Placed) → IsSteps tens n → Begins s (grammar.number n ++ more) → Reads (steps_at tens s) n more
unfolding steps_at
steps_again tens s n more h e =
    let f = in_front s (placed_on 0 (Number n)) more e in
    let found : as_number f.placed ≡ Some n = number_plain f.placed.line f.placed.token ∙ ap (λ (q : Placed). number_by q.token) f.same in
    record { rest = behind_front s; gives = rw (f.gives, found, h.whole, not_zero (steps_of tens n) h.within.0, le-ltb 1000000000 (steps_of tens n) h.within.1) refl; tokens = f.tokens }

close_again : (s : Remainder) (tail : List Placed) → Begins s (grammar.mark symbol.Close ++ tail) → Passes (close_at s) tail
unfolding close_at
close_again s tail e =
    let f = in_front s (placed_on 0 (Mark symbol.Close)) tail e in
    record { rest = behind_front s; gives = rw (f.gives, mark_plain symbol.Close f.placed _ f.same) refl; tokens = f.tokens }

second_again : (s : Remainder) (tail : List Placed) → Begins s (grammar.mark symbol.Comma ++ tail) → Reads (second_at s) true tail
unfolding second_at
second_again s tail e =
    let f = in_front s (placed_on 0 (Mark symbol.Comma)) tail e in
    record { rest = behind_front s; gives = rw (f.gives, mark_plain symbol.Comma f.placed _ f.same) refl; tokens = f.tokens }

second_not : (s : Remainder) (tail : List Placed) → Begins s (grammar.mark symbol.Close ++ tail) → Reads (second_at s) false tail
unfolding second_at
second_not s tail e =
    let f = in_front s (placed_on 0 (Mark symbol.Close)) tail e in
    record { rest = behind_front s; gives = rw (f.gives, mark_plain symbol.Comma f.placed _ f.same, mark_plain symbol.Close f.placed _ f.same) refl; tokens = f.tokens }

single_again : (tens : ℕ) (n : Numeral) (s : Remainder) (tail : List Placed) → IsSteps tens n → Begins s (grammar.number n ++ (grammar.mark symbol.Close ++ tail)) → Reads (bracketed_at tens s) (grammar.Single n) tail
unfolding bracketed_at
single_again tens n s tail h e =
    let a = steps_again tens s n (grammar.mark symbol.Close ++ tail) h e in
    let c = second_not a.rest tail a.tokens in
    record { rest = c.rest; gives = rw (a.gives, c.gives) refl; tokens = c.tokens }

pair_again : (tens : ℕ) (n m : Numeral) (s : Remainder) (tail : List Placed) → IsSteps tens n → IsSteps tens m → Begins s (grammar.number n ++ (grammar.mark symbol.Comma ++ (grammar.number m ++ (grammar.mark symbol.Close ++ tail)))) → Reads (bracketed_at tens s) (grammar.RiseFall n m) tail
unfolding bracketed_at
pair_again tens n m s tail h k e =
    let a = steps_again tens s n (grammar.mark symbol.Comma ++ (grammar.number m ++ (grammar.mark symbol.Close ++ tail))) h e in
    let comma = second_again a.rest (grammar.number m ++ (grammar.mark symbol.Close ++ tail)) a.tokens in
    let b = steps_again tens comma.rest m (grammar.mark symbol.Close ++ tail) k comma.tokens in
    let c = close_again b.rest tail b.tokens in
    record { rest = c.rest; gives = rw (a.gives, comma.gives, b.gives, c.gives) refl; tokens = c.tokens }

-- what stands here is no # where there is no delay
pub delay_again : (tens : ℕ) (s : Remainder) (d : Option grammar.Delay) (t : Placed) (more : List Placed) → IsStatedDelay tens d → is_mark symbol.Hash t.token ≡ false → Begins s (grammar.delay d ++ (t ∷ more)) → Reads (delay_at tens s) d (t ∷ more)
unfolding delay_at
delay_again tens s None t more h other e =
    let a = maybe_mark_not symbol.Hash s t more other e in
    record { rest = a.rest; gives = rw a.gives refl; tokens = a.tokens }
delay_again tens s (Some (grammar.Plain n)) t more h other e =
    let a = maybe_mark_again symbol.Hash s (grammar.number n ++ (t ∷ more)) e in
    let b = maybe_mark_not symbol.Open a.rest (placed_on 0 (Number n)) (t ∷ more) refl a.tokens in
    let c = steps_again tens b.rest n (t ∷ more) h b.tokens in
    record { rest = c.rest; gives = rw (a.gives, b.gives, c.gives) refl; tokens = c.tokens }
delay_again tens s (Some (grammar.Single n)) t more h other e =
    let inner = grammar.number n ++ (grammar.mark symbol.Close ++ (t ∷ more)) in
    let a = maybe_mark_again symbol.Hash s (grammar.mark symbol.Open ++ inner) e in
    let b = maybe_mark_again symbol.Open a.rest inner a.tokens in
    let c = single_again tens n b.rest (t ∷ more) h b.tokens in
    record { rest = c.rest; gives = rw (a.gives, b.gives, c.gives) refl; tokens = c.tokens }
delay_again tens s (Some (grammar.RiseFall n m)) t more h other e =
    let inner = grammar.number n ++ (grammar.mark symbol.Comma ++ (grammar.number m ++ (grammar.mark symbol.Close ++ (t ∷ more)))) in
    let a = maybe_mark_again symbol.Hash s (grammar.mark symbol.Open ++ inner) e in
    let b = maybe_mark_again symbol.Open a.rest inner a.tokens in
    let c = pair_again tens n m b.rest (t ∷ more) h.0 h.1 b.tokens in
    record { rest = c.rest; gives = rw (a.gives, b.gives, c.gives) refl; tokens = c.tokens }
