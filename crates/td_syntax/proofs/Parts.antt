-- What follows the parts of a `timescale is no longer than the text.
use Rattle.std.proofs.Common.{◌≡◌, ℕ, suc, ◌+◌, ◌≤◌, Bool, true, false, cond, List, [], ◌∷◌, length, drop, min, Option, Some, None, Result, Ok, Err, refl, sym, subst, arith, length-drop}
use Rattle.std.specs.Prelude.{◌==◌, nat_le, IfOk}
use Rattle.std.specs.List.{prefix_len}
use Rattle.td_syntax.specs.declared.token.Directive.{Directive}
use Rattle.td_syntax.specs.declared.token.Unread.{Unread}
use Rattle.td_syntax.specs.declared.token.Unread.TheVariants.{Wrong, Short}
use Rattle.td_syntax.specs.Bytes.{is_blank, is_zero}
use Rattle.td_syntax.specs.Spans.{unblanked}
use Rattle.td_syntax.specs.Timescales.{◌>>=◌, magnitude_at, letter_exponent, second_letter, letters_by, unit_at, span_at, slash_at, ordered, timescale_at}
use Rattle.td_syntax.specs.TimescaleViews.{directive_view}
use Rattle.std.specs.Borrow.{Bor}

abbrev read : {A : Type 0} → A → Result A Unread
read x = Ok x

never : {A : Type 0} (e : Unread) (y : A) → Err e ≡ read y → ⊥
never e y h = cc

same_read : {A : Type 0} (x y : A) → read x ≡ read y → x ≡ y
same_read x y h = cc

chosen : {A : Type 0} (b : Bool) (x : A) (e : Unread) (y : A) → cond b (read x) (Err e) ≡ read y → x ≡ y
chosen true x e y h = same_read x y h
chosen false x e y h = absurd (never e y h)

bound : {A B : Type 0} (r : Result A Unread) (f : A → Result B Unread) (y : B) → (r >>= f) ≡ read y → (x : A) × (r ≡ read x) × (f x ≡ read y)
bound (Ok x) f y h = (x, refl, h)
bound (Err e) f y h = absurd (never e y h)

unblanked_within : (bs : List ℕ) → length (unblanked bs) ≤ length bs
unfolding unblanked
unblanked_within bs = omega (arith, length-drop (prefix_len is_blank bs) bs)

magnitude_within : (bs : List ℕ) (x : ℕ × List ℕ) → magnitude_at bs ≡ Ok x → length x.1 ≤ length bs
unfolding magnitude_at
magnitude_within [] x e = absurd (never Short x e)
magnitude_within (b ∷ bs) x e =
    let n = min (prefix_len is_zero bs) 2 in
    subst (λ (y : ℕ × List ℕ). length y.1 ≤ suc (length bs)) (chosen (b == 49) (n, drop n bs) Wrong x e) (omega (arith, length-drop n bs))

second_within : (tens : ℕ) (bs : List ℕ) (x : ℕ × List ℕ) → second_letter tens bs ≡ Ok x → length x.1 ≤ length bs
second_within tens [] x e = absurd (never Short x e)
second_within tens (b ∷ bs) x e = subst (λ (y : ℕ × List ℕ). length y.1 ≤ suc (length bs)) (chosen (b == 115) (tens, bs) Wrong x e) (omega arith)

letters_within : (o : Option ℕ) (bs : List ℕ) (x : ℕ × List ℕ) → letters_by o bs ≡ Ok x → length x.1 ≤ length bs
letters_within None bs x e = absurd (never Wrong x e)
letters_within (Some tens) bs x e = second_within tens bs x e

unit_by : (b : Bool) (o : Option ℕ) (bs : List ℕ) (x : ℕ × List ℕ) → cond b (read (15, bs)) (letters_by o bs) ≡ Ok x → length x.1 ≤ suc (length bs)
unit_by true o bs x e = subst (λ (y : ℕ × List ℕ). length y.1 ≤ suc (length bs)) (same_read (15, bs) x e) (omega arith)
unit_by false o bs x e = omega (arith, letters_within o bs x e)

unit_within : (bs : List ℕ) (x : ℕ × List ℕ) → unit_at bs ≡ Ok x → length x.1 ≤ length bs
unfolding unit_at
unit_within [] x e = absurd (never Short x e)
unit_within (b ∷ bs) x e = unit_by (b == 115) (letter_exponent b) bs x e

span_within : (bs : List ℕ) (x : ℕ × List ℕ) → span_at bs ≡ Ok x → length x.1 ≤ length bs
unfolding span_at
span_within bs x e =
    let m = bound (magnitude_at (unblanked bs)) (λ m. unit_at (unblanked m.1) >>= λ u. Ok (m.0 + u.0, u.1)) x e in
    let u = bound (unit_at (unblanked m.0.1)) (λ u. Ok (m.0.0 + u.0, u.1)) x m.2 in
    subst (λ (y : ℕ × List ℕ). length y.1 ≤ length bs) (same_read (m.0.0 + u.0.0, u.0.1) x u.2)
    (omega (arith, unblanked_within bs, magnitude_within (unblanked bs) m.0 m.1, unblanked_within m.0.1, unit_within (unblanked m.0.1) u.0 u.1))

slash_within : (bs rest : List ℕ) → slash_at bs ≡ Ok rest → length rest ≤ length bs
unfolding slash_at
slash_within [] rest e = absurd (never Short rest e)
slash_within (b ∷ bs) rest e = subst (λ (ys : List ℕ). length ys ≤ suc (length bs)) (chosen (b == 47) bs Wrong rest e) (omega arith)

ordered_within : (unit : ℕ) (step : ℕ × List ℕ) (x : Directive × List ℕ) → ordered unit step ≡ Ok x → length x.1 ≤ length step.1
ordered_within unit step x e = subst (λ (y : Directive × List ℕ). length y.1 ≤ length step.1) (chosen (nat_le step.0 unit) _ Wrong x e) (omega arith)

parts_within : (bs : List ℕ) (x : Directive × List ℕ) → timescale_at bs ≡ Ok x → length x.1 ≤ length bs
unfolding timescale_at
parts_within bs x e =
    let u = bound (span_at bs) (λ unit. slash_at (unblanked unit.1) >>= λ rest. span_at rest >>= ordered unit.0) x e in
    let s = bound (slash_at (unblanked u.0.1)) (λ rest. span_at rest >>= ordered u.0.0) x u.2 in
    let v = bound (span_at s.0) (ordered u.0.0) x s.2 in
    omega (arith, span_within bs u.0 u.1, unblanked_within u.0.1, slash_within (unblanked u.0.1) s.0 s.1, span_within s.0 v.0 v.1, ordered_within u.0.0 v.0 x v.2)

pub parts_as : (bs : List ℕ) (r : Result (Directive × Bor (List ℕ)) Unread) → directive_view r ≡ timescale_at bs → IfOk r (λ x. length x.1.now ≤ length bs)
parts_as bs (Ok x) e = parts_within bs (x.0, x.1.now) (sym e)
parts_as bs (Err f) e = tt
