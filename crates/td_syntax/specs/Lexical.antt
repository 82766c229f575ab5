-- Which fault of tokens is reported: what stands at the front of any text, also where it is no
-- token of the grammar or none at all.
use Rattle.std.specs.Prelude.{ℕ, suc, ◌+◌, ◌-◌, ◌<◌, ◌≤◌, List, [], ◌∷◌, length, take, drop, Option, None, Some, Bool, ◌||◌, ◌==◌, if◌then◌else◌, codes, true, false, Result, Ok, Err}
use Rattle.std.specs.List.{prefix_len, position_or_len, list_any}
use Rattle.std.specs.Option.{option_map}
use Rattle.std.specs.Char.{is_ascii_digit, is_ascii_alphanumeric}
use Rattle.std.specs.Str.{bytes_eq}
use Rattle.td_nets.specs.Words.{reserved_words}
use Rattle.td_nets.specs.declared.keyword.Keyword.{Keyword}
use Rattle.td_syntax.specs.declared.token.Stop.{Stop}
use Rattle.td_syntax.specs.declared.token.Stop.TheVariants as stop
use Rattle.td_syntax.specs.declared.token.Symbol.TheVariants as symbol
use Rattle.td_syntax.specs.declared.token.Directive.{Directive}
use Rattle.td_syntax.specs.declared.token.Directive.TheVariants as directive
use Rattle.td_syntax.specs.declared.token.Unread.{Unread}
use Rattle.td_syntax.specs.declared.attribute.Place.{Place}
use Rattle.td_syntax.specs.declared.attribute.Place.TheVariants as place
use Rattle.td_syntax.specs.Token.{Numeral, Token, Name, Escaped, Reserved, Number, Constant, Mark, Attribute, Directs, Outside}
use Rattle.td_nets.specs.Keywords.{keyword_of}
use Rattle.td_syntax.specs.Pieces.{comment_end, numeral_at, ends_name}
use Rattle.td_syntax.specs.Timescales.{timescale_at}
use Rattle.td_nets.specs.Letters.{is_letter, is_name_byte}
use Rattle.td_syntax.specs.Bytes.{is_blank, is_run_byte, is_printable, is_newline, is_quote, begins}

-- A piece of a text and how many bytes it takes: white space or a comment, a token, or what nothing
-- comes after.
pub data Piece : Type 0 where
  Space : ℕ → Piece
  Found : Token → ℕ → Piece
  Last : Stop → Piece

abbrev pub word_as : Option Keyword → List ℕ → Token
word_as None w = if list_any (λ r. bytes_eq r w) reserved_words then Outside w else Name w
word_as (Some k) w = Reserved k

abbrev pub word_of : List ℕ → Token
word_of w = word_as (keyword_of w) w

-- what takes n bytes of a comment, or what the text ends in
abbrev pub comment_of : Option ℕ → Piece
comment_of None = Last stop.Cut
comment_of (Some n) = Space (n + 4)

-- A line comment goes up to its newline. The bytes are those after the first /.
abbrev pub slash_at : List ℕ → Piece
slash_at [] = Found (Outside (47 ∷ [])) 1
slash_at (c ∷ bs) =
    if c == 47 then Space (2 + position_or_len is_newline bs)
    else (if c == 42 then comment_of (comment_end bs)
    else Found (Outside (47 ∷ [])) 1)

-- ---- numbers

-- the two constants of the subset
unfoldable pub constant_of : List ℕ → Token
constant_of text =
    if bytes_eq text (codes "1'b0") || bytes_eq text (codes "1'B0") then Constant false text
    else (if bytes_eq text (codes "1'b1") || bytes_eq text (codes "1'B1") then Constant true text
    else Outside text)

-- a constant: a number of n bytes, the quote and the letters and digits after it
abbrev pub constant_at : ℕ → List ℕ → Piece
constant_at n bytes =
    let m = n + 1 + prefix_len is_ascii_alphanumeric (drop 1 (drop n bytes)) in Found (constant_of (take m bytes)) m

-- a number that takes n bytes, or what it runs into
abbrev pub numeral_or : List ℕ → Numeral × ℕ → Piece
numeral_or bytes x =
    let run = prefix_len is_run_byte bytes in
    if begins is_quote (drop x.1 bytes) then constant_at x.1 bytes
    else (if begins is_name_byte (drop x.1 bytes) then Found (Outside (take run bytes)) run
    else Found (Number x.0) x.1)

abbrev pub number_by : List ℕ → Option (Numeral × ℕ) → Piece
number_by bytes None = Last stop.Malformed
number_by bytes (Some x) = numeral_or bytes x

unfoldable pub number_at : List ℕ → Piece
number_at bytes = number_by bytes (numeral_at bytes)

-- ---- escaped names

-- The bytes are those after the backslash.
unfoldable pub escaped_at : List ℕ → Piece
escaped_at bs =
    let n = prefix_len is_printable bs in
    if ends_name (drop n bs) then (if n == 0 then Last stop.Malformed else Found (Escaped (92 ∷ take n bs)) (n + 1))
    else Last stop.Bad

-- ---- directives

-- the parts after the word of a `timescale, and how many bytes the whole takes
abbrev pub timescale_piece : List ℕ → List ℕ → Result (Directive × List ℕ) Unread → Piece
timescale_piece word bytes (Ok x) = Found (Directs (Ok x.0) word) (length word + (length bytes - length x.1))
timescale_piece word bytes (Err e) = Found (Directs (Err e) word) (length word + length bytes)

-- a directive by its word, which begins with the backquote, and the bytes after it
unfoldable pub directive_of : List ℕ → List ℕ → Piece
directive_of word bytes =
    if bytes_eq word (codes "`timescale") then timescale_piece word bytes (timescale_at bytes)
    else (if bytes_eq word (codes "`celldefine") || bytes_eq word (codes "`endcelldefine") then Found (Directs (Ok directive.Cells) word) (length word)
    else Found (Outside word) (length word))

-- The bytes are those after the backquote.
unfoldable pub directive_at : List ℕ → Piece
directive_at bs =
    let n = prefix_len is_name_byte bs in
    if begins is_letter bs then directive_of (96 ∷ take n bs) (drop n bs)
    else Found (Outside (96 ∷ [])) 1

-- ---- attributes

-- Whether this byte ends the attribute: the `)` after a `*` that stands in no quoted text.
abbrev pub closes : Place → ℕ → Bool
closes place.Plain b = false
closes place.Star b = b == 41
closes place.Quoted b = false
closes place.Escaped b = false

-- the place after this byte, in an attribute that it doesn't end
abbrev pub behind_byte : Place → ℕ → Place
behind_byte place.Plain b = if b == 34 then place.Quoted else (if b == 42 then place.Star else place.Plain)
behind_byte place.Star b = if b == 34 then place.Quoted else (if b == 42 then place.Star else place.Plain)
behind_byte place.Quoted b = if b == 34 then place.Plain else (if b == 92 then place.Escaped else place.Quoted)
behind_byte place.Escaped b = place.Quoted

-- how many bytes stand up to the end of the attribute, if it ends
unfoldable pub end_behind : Place → List ℕ → Option ℕ
end_behind p [] = None
end_behind p (b ∷ bs) = if closes p b then Some 1 else option_map suc (end_behind (behind_byte p b) bs)

abbrev pub attribute_of : Option ℕ → Piece
attribute_of None = Last stop.Cut
attribute_of (Some n) = Found Attribute (n + 2)

-- ---- marks

-- the token of a character by itself
abbrev pub mark_of : ℕ → Token
mark_of b =
    if b == 41 then Mark symbol.Close
    else (if b == 44 then Mark symbol.Comma
    else (if b == 59 then Mark symbol.Semicolon
    else (if b == 35 then Mark symbol.Hash
    else (if b == 91 then Mark symbol.LeftBracket
    else (if b == 93 then Mark symbol.RightBracket
    else (if b == 58 then Mark symbol.Colon
    else Outside (b ∷ [])))))))

-- A character by itself, an escaped name or a directive. The bytes are those after it.
unfoldable pub char_at : ℕ → List ℕ → Piece
char_at b bs =
    if b == 92 then escaped_at bs
    else (if b == 96 then directive_at bs
    else Found (mark_of b) 1)

-- A `(` begins an attribute where a `*` follows it. The bytes are those after the `(`.
abbrev pub open_at : List ℕ → Piece
open_at [] = Found (Mark symbol.Open) 1
open_at (c ∷ bs) = if c == 42 then attribute_of (end_behind place.Plain bs) else Found (Mark symbol.Open) 1

unfoldable pub piece_at : List ℕ → Piece
piece_at [] = Last stop.End
piece_at (b ∷ bs) =
    if is_blank b then Space (prefix_len is_blank (b ∷ bs))
    else (if is_letter b then (let n = prefix_len is_name_byte (b ∷ bs) in Found (word_of (take n (b ∷ bs))) n)
    else (if is_ascii_digit b then number_at (b ∷ bs)
    else (if b == 47 then slash_at bs
    else (if b == 40 then open_at bs
    else (if is_printable b then char_at b bs
    else Last stop.Bad)))))

-- a piece takes at least one byte, and none past the end
abbrev pub Takes : Piece → ℕ → Type 0
Takes (Space n) len = (0 < n) × (n ≤ len)
Takes (Found t n) len = (0 < n) × (n ≤ len)
Takes (Last t) len = Unit {0}
