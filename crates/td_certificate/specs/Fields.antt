-- Fields that are read from the front of the bytes, up to the first byte that can't be read on.
use Rattle.std.specs.Prelude.{◌≡◌, ℕ, ◌+◌, ◌-◌, ◌*◌, Bool, false, List, [], ◌∷◌, codes, Option, Some, None, Result, Ok, Err, nat_lt, nat_le, ◌==◌, ◌&&◌, if◌then◌else◌}
use Rattle.std.specs.Char.{is_ascii_digit}
use Rattle.td_certificate.specs.declared.fields.Reason.{Reason}
use Rattle.td_certificate.specs.declared.fields.Reason.TheVariants.{Syntax, NumberTooLarge}
use Rattle.td_certificate.specs.declared.fields.Stop as code_stop
use Rattle.td_certificate.specs.declared.fields.Stop.TheVariants as code
use Rattle.td_certificate.specs.Steps.{greatest}

-- why reading stops: the bytes end, or from here on they can't be read, for this reason
pub data Stop : Type 0 where
  Ends : Stop
  Wrong : Reason → List ℕ → Stop

-- what was read, and the bytes after it
abbrev pub Reading : Type 0 → Type 0
Reading A = Result (A × List ℕ) Stop

infixl 10 ◌>>=◌
abbrev pub ◌>>=◌ : {A B : Type 0} → Result A Stop → (A → Result B Stop) → Result B Stop
(Ok x) >>= f = f x
(Err stop) >>= f = Err stop

-- What a function returned, seen by view, is what reading gives, unless memory ran out.
abbrev pub Fails : {Y : Type 0} → code_stop.Stop → Result Y Stop → Type 0
Fails code.OutOfMemory read = Unit {0}
Fails code.Ends read = read ≡ Err Ends
Fails (code.Wrong reason rest) read = read ≡ Err (Wrong reason rest.now)

abbrev pub Gives : {X Y : Type 0} → (X → Y) → Result X code_stop.Stop → Result Y Stop → Type 0
Gives view (Ok x) read = read ≡ Ok (view x)
Gives view (Err stop) read = Fails stop read

-- the first byte
abbrev pub byte_at : List ℕ → Reading ℕ
byte_at [] = Err Ends
byte_at (b ∷ rest) = Ok (b, rest)

-- this text
unfoldable pub literal : List ℕ → List ℕ → Reading (Unit {0})
literal [] bytes = Ok (tt, bytes)
literal (c ∷ cs) [] = Err Ends
literal (c ∷ cs) (b ∷ rest) = if b == c then literal cs rest else Err (Wrong Syntax (b ∷ rest))

-- the digits after those of a number so far, up to the byte that closes it
unfoldable pub digits_at : ℕ → ℕ → ℕ → List ℕ → Reading ℕ
digits_at most close number [] = Err Ends
digits_at most close number (b ∷ rest) =
    if b == close then Ok (number, rest) else (
    if is_ascii_digit b then (
    if nat_lt 0 number then (
    if nat_le (10 * number + (b - 48)) most then digits_at most close (10 * number + (b - 48)) rest
    else Err (Wrong NumberTooLarge (b ∷ rest))) else Err (Wrong Syntax (b ∷ rest))) else Err (Wrong Syntax (b ∷ rest)))

-- a number up to the most, without leading zeros, and the byte that closes it
unfoldable pub number_at : ℕ → ℕ → List ℕ → Reading ℕ
number_at most close [] = Err Ends
number_at most close (b ∷ rest) =
    if is_ascii_digit b then (
    if nat_le (b - 48) most then digits_at most close (b - 48) rest
    else Err (Wrong NumberTooLarge (b ∷ rest))) else Err (Wrong Syntax (b ∷ rest))

abbrev pub begins_with_zero : List ℕ → Bool
begins_with_zero [] = false
begins_with_zero (b ∷ rest) = b == 48

-- such a number, which isn't 0 where it must be positive
unfoldable pub number_from : Bool → ℕ → ℕ → List ℕ → Reading ℕ
number_from positive most close bytes = if positive && begins_with_zero bytes then Err (Wrong Syntax bytes) else number_at most close bytes

-- the first of these values that is written as this byte
abbrev pub written_as : {A : Type 0} → (A → ℕ) → List A → ℕ → Option A
written_as byte [] b = None
written_as byte (x ∷ others) b = if b == byte x then Some x else written_as byte others b

abbrev pub taken : {A : Type 0} → Option A → ℕ → List ℕ → Reading A
taken (Some x) b rest = Ok (x, rest)
taken None b rest = Err (Wrong Syntax (b ∷ rest))

-- a character, by what its byte stands for
abbrev pub char_at : {A : Type 0} → (ℕ → Option A) → List ℕ → Reading A
char_at value [] = Err Ends
char_at value (b ∷ rest) = taken (value b) b rest

-- a word, a number and the byte that closes it
unfoldable pub number_behind : List ℕ → ℕ → ℕ → List ℕ → Reading ℕ
number_behind word most close bytes = do
  behind ← literal word bytes
  number_at most close behind.1

-- whether `none` begins here, where it may stand in a number's place
abbrev pub begins_none : Bool → List ℕ → Bool
begins_none may [] = false
begins_none may (b ∷ rest) = may && b == 110

-- a number up to the greatest and the newline, or `none` where it may stand in a number's place
unfoldable pub number_or_none : Bool → List ℕ → Reading (Option ℕ)
number_or_none may bytes = if begins_none may bytes then (literal (codes "none\n") bytes >>= λ word. Ok (None, word.1))
    else (number_at greatest 10 bytes >>= λ number. Ok (Some number.0, number.1))
