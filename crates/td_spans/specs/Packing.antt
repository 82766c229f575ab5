-- Internal: how variables are kept in little memory.
use Rattle.std.specs.Prelude.{ℕ, ◌+◌, ◌*◌, ◌/◌, ◌%◌, ◌≤◌, ◌==◌, Bool, List, [], ◌∷◌, length, get_or, Option, Some, None}
use Rattle.td_spans.specs.declared.variable.Saying.{Saying}
use Rattle.td_spans.specs.declared.variable.Variable.{Variable}
use Rattle.td_spans.specs.declared.variable.Variable.TheVariants as variable
use Rattle.td_spans.specs.declared.variables.Layout.{Layout}
use Rattle.td_spans.specs.declared.variables.Layout.TheVariants.{First, Last, FewFlips, Flips, Rest, Span, LongRest, LongSpan}

-- the word at a place
abbrev pub word_at : List ℕ → ℕ → ℕ
word_at words place = get_or words place 0

-- the number whose low half is at a place and whose high half is behind it
abbrev pub long_at : List ℕ → ℕ → ℕ
long_at words place = word_at words place + 4294967296 * word_at words (place + 1)

abbrev pub spanned : ℕ → Bool → ℕ → Option ℕ → Saying
spanned net level first last = record { net = net; level = level; first = first; last = last }

-- the variable of a layout and a number, with these words
abbrev pub decoded : List ℕ → Layout → ℕ → Variable
decoded words First number = variable.First number
decoded words Last number = variable.Last number
decoded words FewFlips number = variable.Flips (number / 65536) (number % 65536)
decoded words Flips number = variable.Flips (word_at words number) (long_at words (number + 1))
decoded words Rest number =
    variable.Span (spanned (word_at words (number / 2)) (number % 2 == 1) (word_at words (number / 2 + 1)) None)
decoded words Span number = variable.Span
    (spanned (word_at words (number / 2)) (number % 2 == 1) (word_at words (number / 2 + 1)) (Some (word_at words (number / 2 + 2))))
decoded words LongRest number =
    variable.Span (spanned (word_at words (number / 2)) (number % 2 == 1) (long_at words (number / 2 + 1)) None)
decoded words LongSpan number = variable.Span
    (spanned (word_at words (number / 2)) (number % 2 == 1) (long_at words (number / 2 + 1)) (Some (long_at words (number / 2 + 3))))

-- the words that a variable of a layout and a number has are there
abbrev pub IsWithin : ℕ → Layout → ℕ → Type 0
IsWithin count First number = 0 ≤ count
IsWithin count Last number = 0 ≤ count
IsWithin count FewFlips number = 0 ≤ count
IsWithin count Flips number = number + 3 ≤ count
IsWithin count Rest number = number / 2 + 2 ≤ count
IsWithin count Span number = number / 2 + 3 ≤ count
IsWithin count LongRest number = number / 2 + 3 ≤ count
IsWithin count LongSpan number = number / 2 + 5 ≤ count

-- the variables of layouts and numbers, with these words
abbrev pub all_decoded : List ℕ → List Layout → List ℕ → List Variable
all_decoded words [] numbers = []
all_decoded words (layout ∷ layouts) [] = []
all_decoded words (layout ∷ layouts) (number ∷ numbers) = decoded words layout number ∷ all_decoded words layouts numbers

-- there are as many numbers as layouts, and all their words
abbrev pub AreWithin : List ℕ → List Layout → List ℕ → Type 0
AreWithin words [] [] = 0 ≤ length words
AreWithin words (layout ∷ layouts) (number ∷ numbers) = IsWithin (length words) layout number × AreWithin words layouts numbers
AreWithin words layouts numbers = ⊥
