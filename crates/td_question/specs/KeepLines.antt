-- What a request says, as it is quoted, and the lines of a file of conditions.
use Rattle.std.specs.Prelude.{ℕ, ◌+◌, ◌-◌, ◌==◌, ◌&&◌, ◌||◌, not, Bool, false, List, [], ◌∷◌, ◌++◌, length, take, drop, Option, Some, None, if◌then◌else◌}
use Rattle.std.specs.Borrow.{Bor}
use Rattle.std.specs.Char.{is_ascii_whitespace}
use Rattle.std.specs.List.{prefix_len, suffix_len}
use Rattle.td_question.specs.declared.quote.Quote.{Quote as CodeQuote}

-- a text that a request has, and the number of its line, where it is of a file
pub record Quote : Type 0 where
  pub text : List ℕ
  pub line : Option ℕ

abbrev pub quote_in : CodeQuote → Quote
quote_in quote = record { text = quote.text.now; line = quote.line }

-- a word of the command line
abbrev pub word_quote : List ℕ → Quote
word_quote word = record { text = word; line = None }

-- a text without the blanks at its end
abbrev pub end_trimmed : List ℕ → List ℕ
end_trimmed text = take (length text - suffix_len is_ascii_whitespace text) text

-- a text without the blanks around
abbrev pub trimmed : List ℕ → List ℕ
trimmed text = end_trimmed (drop (prefix_len is_ascii_whitespace text) text)

-- the byte after this one is of a name that a backslash begins
abbrev pub is_escaped : Bool → ℕ → Bool
is_escaped escaped byte = not (is_ascii_whitespace byte) && (escaped || byte == 92)

-- a text up to its comment, which begins with a `#` that isn't of such a name
abbrev pub uncommented : Bool → List ℕ → List ℕ
uncommented escaped [] = []
uncommented escaped (byte ∷ rest) =
    if byte == 35 && not escaped then [] else (byte ∷ uncommented (is_escaped escaped byte) rest)

-- what a line says, without its comment and the blanks around
abbrev pub content : List ℕ → List ℕ
content line = trimmed (uncommented false line)

abbrev pub quotes_of : ℕ → List ℕ → List Quote
quotes_of number [] = []
quotes_of number (byte ∷ rest) = (record { text = byte ∷ rest; line = Some number }) ∷ []

-- what the line with this number says, if it says something
abbrev pub line_quotes : ℕ → List ℕ → List Quote
line_quotes number line = quotes_of number (content line)

-- what lines say, of which the first has this number; the front of it stands before the text
abbrev pub quotes_from : ℕ → List ℕ → List ℕ → List Quote
quotes_from number front [] = line_quotes number front
quotes_from number front (byte ∷ rest) =
    if byte == 10 then line_quotes number front ++ quotes_from (number + 1) [] rest else quotes_from number (front ++ byte ∷ []) rest

-- what the lines of a text say, in order
abbrev pub quotes_in : List ℕ → List Quote
quotes_in text = quotes_from 1 [] text

-- what the lines of a file say, where there is one
abbrev pub file_quotes : Option (Bor (List ℕ)) → List Quote
file_quotes None = []
file_quotes (Some text) = quotes_in text.now
