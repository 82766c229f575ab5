-- Reading steps and the bound that they are to show.
use Rattle.std.specs.Prelude.{ℕ, zero, suc, ◌+◌, ◌-◌, ◌*◌, Bool, true, false, List, [], ◌∷◌, length, codes, Option, None, Ok, Err, nat_lt, nat_le, ◌==◌, if◌then◌else◌}
use Rattle.std.specs.Char.{is_ascii_digit}
use Rattle.td_refutation.specs.Whole.{Step}
use Rattle.td_refutation.specs.declared.kind.StepKind.{StepKind}
use Rattle.td_refutation.specs.declared.kind.StepKind.TheVariants.{First, Last, Span, Flips, Gate, Table, Net, Pairs, Keep, Lemma, End, Again}
use Rattle.td_certificate.specs.declared.fields.Reason.TheVariants.{Syntax, NumberTooLarge}
use Rattle.td_certificate.specs.declared.steps.Line as code_line
use Rattle.td_certificate.specs.declared.steps.Line.TheVariants as line
use Rattle.td_certificate.specs.Steps.{Refuted, kind_byte, greatest}
use Rattle.td_certificate.specs.Fields.{Ends, Wrong, Reading, ◌>>=◌, written_as, char_at, literal, number_or_none}

-- a value that ends a list, or one that others follow
abbrev pub ended_by : {A B : Type 0} → (A → B) → (A → B → B) → Bool → A → List ℕ → Reading B → Reading B
ended_by single put true x rest others = Ok (single x, rest)
ended_by single put false x rest others = others >>= λ y. Ok (put x y.0, y.1)

-- values up to one that is the last, no more of them than this number
unfoldable pub until_within : {A B : Type 0} → (A → Bool) → (A → B) → (A → B → B) → (List ℕ → Reading A) → ℕ → List ℕ → Reading B
until_within last single put read zero bytes = Err Ends
until_within last single put read (suc count) bytes =
    read bytes >>= λ x. ended_by single put (last x.0) x.0 x.1 (until_within last single put read count x.1)

-- values up to one that is the last
unfoldable pub until_at : {A B : Type 0} → (A → Bool) → (A → B) → (A → B → B) → (List ℕ → Reading A) → List ℕ → Reading B
until_at last single put read bytes = until_within last single put read (length bytes) bytes

-- the digits after those of a number so far, up to a newline or a space, and whether it is the
-- newline
unfoldable pub open_digits_at : ℕ → List ℕ → Reading (ℕ × Bool)
open_digits_at number [] = Err Ends
open_digits_at number (b ∷ rest) =
    if b == 10 then Ok ((number, true), rest) else (
    if b == 32 then Ok ((number, false), rest) else (
    if is_ascii_digit b then (
    if nat_lt 0 number then (
    if nat_le (10 * number + (b - 48)) greatest then open_digits_at (10 * number + (b - 48)) rest
    else Err (Wrong NumberTooLarge (b ∷ rest))) else Err (Wrong Syntax (b ∷ rest))) else Err (Wrong Syntax (b ∷ rest))))

-- a number without leading zeros, up to a newline or a space, and whether it is the newline
unfoldable pub open_number_at : List ℕ → Reading (ℕ × Bool)
open_number_at [] = Err Ends
open_number_at (b ∷ rest) = if is_ascii_digit b then open_digits_at (b - 48) rest else Err (Wrong Syntax (b ∷ rest))

-- the numbers of a line, after a space
unfoldable pub numbers_at : List ℕ → Reading (List ℕ)
numbers_at bytes = until_at (λ x. x.1) (λ x. x.0 ∷ []) (λ x others. x.0 ∷ others) open_number_at bytes

-- a newline, or a space
abbrev pub closing_byte : Bool → ℕ
closing_byte true = 10
closing_byte false = 32

abbrev pub numbers_after : Bool → List ℕ → Reading (List ℕ)
numbers_after true bytes = Ok ([], bytes)
numbers_after false bytes = numbers_at bytes

-- numbers, each after a space, and the newline
unfoldable pub spaced_at : List ℕ → Reading (List ℕ)
spaced_at bytes = do
  close ← char_at (λ b. written_as closing_byte (true ∷ false ∷ []) b) bytes
  numbers_after close.0 close.1

-- the first byte of a line in a leaf that is refuted: a step's letter, or that of its bound
pub data LineTag : Type 0 where
  StepTag : StepKind → LineTag
  BoundEndTag : LineTag

abbrev pub line_byte : LineTag → ℕ
line_byte (StepTag kind) = kind_byte kind
line_byte BoundEndTag = 113

abbrev pub line_tags : List LineTag
line_tags =
    StepTag First ∷ StepTag Last ∷ StepTag Span ∷ StepTag Flips ∷ StepTag Gate ∷ StepTag Table
    ∷ StepTag Net ∷ StepTag Pairs ∷ StepTag Keep ∷ StepTag Lemma ∷ StepTag End ∷ StepTag Again ∷ BoundEndTag ∷ []

-- a line in a leaf that is refuted: a step, or the bound, if there is one
pub data RefutedLine : Type 0 where
  StepLine : Step → RefutedLine
  BoundLine : Option ℕ → RefutedLine

unfoldable pub behind_line_tag : LineTag → List ℕ → Reading RefutedLine
behind_line_tag (StepTag kind) bytes = do
  numbers ← spaced_at bytes
  Ok (StepLine (record { kind = kind; numbers = numbers.0 }), numbers.1)
behind_line_tag BoundEndTag bytes = do
  space ← literal (codes " ") bytes
  bound ← number_or_none true space.1
  Ok (BoundLine bound.0, bound.1)

unfoldable pub refuted_line_at : List ℕ → Reading RefutedLine
refuted_line_at bytes = do
  tag ← char_at (λ b. written_as line_byte line_tags b) bytes
  behind_line_tag tag.0 tag.1

abbrev pub is_bound_line : RefutedLine → Bool
is_bound_line (StepLine step) = false
is_bound_line (BoundLine bound) = true

-- the bound alone, for a line that has it
abbrev pub bound_alone : RefutedLine → Refuted
bound_alone (StepLine step) = record { steps = []; bound = None }
bound_alone (BoundLine bound) = record { steps = []; bound = bound }

-- a step more before others
abbrev pub step_before : RefutedLine → Refuted → Refuted
step_before (StepLine step) refuted = record { steps = step ∷ refuted.steps; bound = refuted.bound }
step_before (BoundLine bound) refuted = refuted

-- what a line of a step or a bound says, where these are the step's numbers
abbrev pub line_of : code_line.Line → List ℕ → RefutedLine
line_of (line.Step kind) numbers = StepLine (record { kind = kind; numbers = numbers })
line_of (line.Bound bound) numbers = BoundLine bound

-- the kind with this letter
abbrev pub kind_of_byte : ℕ → Option StepKind
kind_of_byte b = written_as kind_byte (First ∷ Last ∷ Span ∷ Flips ∷ Gate ∷ Table ∷ Net ∷ Pairs ∷ Keep ∷ Lemma ∷ End ∷ Again ∷ []) b

-- steps and a bound
unfoldable pub refuted_at : List ℕ → Reading Refuted
refuted_at bytes = until_at is_bound_line bound_alone step_before refuted_line_at bytes
