-- Which fault of a `timescale is reported: its parts one after another, up to the first that can't
-- be read.
use Rattle.std.specs.Prelude.{ℕ, ◌+◌, List, [], ◌∷◌, drop, Option, None, Some, ◌==◌, nat_le, min, if◌then◌else◌, Result, Ok, Err}
use Rattle.std.specs.List.{prefix_len}
use Rattle.td_syntax.specs.declared.token.Directive.{Directive}
use Rattle.td_syntax.specs.declared.token.Directive.TheVariants as directive
use Rattle.td_syntax.specs.declared.token.Unread.{Unread}
use Rattle.td_syntax.specs.declared.token.Unread.TheVariants.{Wrong, Short}
use Rattle.td_syntax.specs.Bytes.{is_zero}
use Rattle.td_syntax.specs.Spans.{unblanked}

infixl 10 ◌>>=◌
abbrev pub ◌>>=◌ : {A B : Type 0} → Result A Unread → (A → Result B Unread) → Result B Unread
(Ok x) >>= f = f x
(Err e) >>= f = Err e

-- Each part gives its number and the bytes after it.

-- 1, 10 or 100, as the number of its zeros
unfoldable pub magnitude_at : List ℕ → Result (ℕ × List ℕ) Unread
magnitude_at [] = Err Short
magnitude_at (b ∷ bs) = let n = min (prefix_len is_zero bs) 2 in if b == 49 then Ok (n, drop n bs) else Err Wrong

-- the units with two letters, by the first one, as the number of zeros that they have in
-- femtoseconds
abbrev pub letter_exponent : ℕ → Option ℕ
letter_exponent b =
    if b == 109 then Some 12
    else (if b == 117 then Some 9
    else (if b == 110 then Some 6
    else (if b == 112 then Some 3
    else (if b == 102 then Some 0
    else None))))

-- the letter s of a unit
abbrev pub second_letter : ℕ → List ℕ → Result (ℕ × List ℕ) Unread
second_letter tens [] = Err Short
second_letter tens (b ∷ bs) = if b == 115 then Ok (tens, bs) else Err Wrong

abbrev pub letters_by : Option ℕ → List ℕ → Result (ℕ × List ℕ) Unread
letters_by None bs = Err Wrong
letters_by (Some tens) bs = second_letter tens bs

-- s, ms, us, ns, ps or fs
unfoldable pub unit_at : List ℕ → Result (ℕ × List ℕ) Unread
unit_at [] = Err Short
unit_at (b ∷ bs) = if b == 115 then Ok (15, bs) else letters_by (letter_exponent b) bs

-- a magnitude and a unit: the power of ten of a femtosecond that they make
unfoldable pub span_at : List ℕ → Result (ℕ × List ℕ) Unread
span_at bytes = magnitude_at (unblanked bytes) >>= λ m. unit_at (unblanked m.1) >>= λ u. Ok (m.0 + u.0, u.1)

unfoldable pub slash_at : List ℕ → Result (List ℕ) Unread
slash_at [] = Err Short
slash_at (b ∷ bs) = if b == 47 then Ok bs else Err Wrong

-- the second span is not greater than the first
abbrev pub ordered : ℕ → ℕ × List ℕ → Result (Directive × List ℕ) Unread
ordered unit step = if nat_le step.0 unit then Ok (directive.Timescale (record { unit = unit; step = step.0 }), step.1) else Err Wrong

unfoldable pub timescale_at : List ℕ → Result (Directive × List ℕ) Unread
timescale_at bytes = span_at bytes >>= λ unit. slash_at (unblanked unit.1) >>= λ rest. span_at rest >>= ordered unit.0
