-- What stands at the front of a text: white space, a comment or a token of the grammar, each the
-- longest that begins there. Nothing stands there where that one runs into what it may not: a
-- number into a letter, an attribute that isn't closed into the end of the text.
use Rattle.std.specs.Prelude.{ℕ, suc, ◌+◌, ◌-◌, List, [], ◌∷◌, length, take, drop, Option, None, Some, Bool, ◌||◌, ◌&&◌, ◌==◌, if◌then◌else◌, codes, true, false, not, Ok}
use Rattle.std.specs.List.{prefix_len, position_or_len, list_any}
use Rattle.std.specs.Option.{option_map}
use Rattle.std.specs.Char.{is_ascii_digit, is_ascii_alphanumeric}
use Rattle.std.specs.Str.{bytes_eq}
use Rattle.td_nets.specs.declared.keyword.Keyword.{Keyword}
use Rattle.td_syntax.specs.declared.token.Symbol.TheVariants as symbol
use Rattle.td_syntax.specs.declared.token.Directive.TheVariants as directive
use Rattle.td_nets.specs.Words.{reserved_words}
use Rattle.td_syntax.specs.Spans.{timescale_in}
use Rattle.td_syntax.specs.Token.{Numeral, Token, Name, Reserved, Number, Constant, Mark, Attribute, Directs}
use Rattle.td_nets.specs.Keywords.{beside, keyword_of}
use Rattle.td_nets.specs.Letters.{is_letter, is_name_byte}
use Rattle.td_syntax.specs.Bytes.{is_blank, is_number_byte, is_printable, is_newline, is_point, is_quote, begins}

-- a piece of a text and how many bytes it takes: white space or a comment, or a token
pub data Piece : Type 0 where
  Gap : ℕ → Piece
  Stands : Token → ℕ → Piece

-- the token that takes n bytes, if it is one
abbrev pub stands : ℕ → Option Token → Option Piece
stands n t = option_map (λ t. Stands t n) t

-- ---- words

-- a word of the grammar, or a name where it isn't reserved
abbrev pub word_by : Option Keyword → List ℕ → Option Token
word_by (Some k) w = Some (Reserved k)
word_by None w = if list_any (λ r. bytes_eq r w) reserved_words then None else Some (Name w)

-- the end of the text, or white space
abbrev pub ends_name : List ℕ → Bool
ends_name [] = true
ends_name (b ∷ bs) = is_blank b

-- an escaped name, by the bytes after its backslash
unfoldable pub escaped_in : List ℕ → Option Piece
escaped_in bs =
    let n = prefix_len is_printable bs in
    if ends_name (drop n bs) then (if n == 0 then None else Some (Stands (Name (take n bs)) (n + 1))) else None

-- ---- comments, by the bytes after their first slash

-- the place of the first */, if there is one
unfoldable pub comment_end : List ℕ → Option ℕ
comment_end [] = None
comment_end (b ∷ []) = None
comment_end (b ∷ c ∷ bs) = if b == 42 && c == 47 then Some 0 else option_map suc (comment_end (c ∷ bs))

-- up to a newline, or with the next */
abbrev pub comment_in : List ℕ → Option Piece
comment_in [] = None
comment_in (c ∷ bs) =
    if c == 47 then Some (Gap (2 + position_or_len is_newline bs))
    else (if c == 42 then option_map (λ n. Gap (n + 4)) (comment_end bs) else None)

-- ---- numbers and constants

-- a number and how many bytes it takes, unless no digit follows its point
unfoldable pub numeral_at : List ℕ → Option (Numeral × ℕ)
numeral_at bytes =
    let n = prefix_len is_number_byte bytes in
    let behind = drop n bytes in
    let k = prefix_len is_number_byte (drop 1 behind) in
    if begins is_point behind then (if begins is_ascii_digit (drop 1 behind) then Some (record { whole = take n bytes; fraction = Some (take k (drop 1 behind)) }, n + 1 + k) else None)
    else Some (record { whole = take n bytes; fraction = None }, n)

-- the two constants
unfoldable pub constant_in : List ℕ → Option Token
constant_in text =
    if bytes_eq text (codes "1'b0") || bytes_eq text (codes "1'B0") then Some (Constant false [])
    else (if bytes_eq text (codes "1'b1") || bytes_eq text (codes "1'B1") then Some (Constant true []) else None)

-- A number stands by itself or, with a quote and the letters and digits after that, begins a
-- constant. It runs into no other letter and no `$`.
abbrev pub number_by : List ℕ → Option (Numeral × ℕ) → Option Piece
number_by bytes None = None
number_by bytes (Some x) =
    let m = x.1 + 1 + prefix_len is_ascii_alphanumeric (drop 1 (drop x.1 bytes)) in
    if begins is_quote (drop x.1 bytes) then stands m (constant_in (take m bytes))
    else (if begins is_name_byte (drop x.1 bytes) then None else Some (Stands (Number x.0) x.1))

-- ---- attributes and directives

-- How many bytes stand up to the next *), with it, that stands in no text in double quotes. There a
-- backslash takes the next byte with it.
unfoldable pub attribute_end : Bool → List ℕ → Option ℕ
attribute_end quoted [] = None
attribute_end quoted (b ∷ []) = None
attribute_end false (b ∷ c ∷ bs) = if b == 42 && c == 41 then Some 2 else option_map suc (attribute_end (b == 34) (c ∷ bs))
attribute_end true (b ∷ c ∷ bs) = if b == 92 then option_map (λ n. n + 2) (attribute_end true bs) else option_map suc (attribute_end (not (b == 34)) (c ∷ bs))

-- a round bracket or an attribute, by the bytes after the bracket
abbrev pub open_in : List ℕ → Option Piece
open_in [] = Some (Stands (Mark symbol.Open) 1)
open_in (c ∷ bs) = if c == 42 then option_map (λ n. Stands Attribute (n + 2)) (attribute_end false bs) else Some (Stands (Mark symbol.Open) 1)

-- a directive by its word, which begins with the backquote, and the bytes after it
unfoldable pub directive_by : List ℕ → List ℕ → Option Piece
directive_by word bytes =
    if bytes_eq word (codes "`timescale") then option_map (λ x. Stands (Directs (Ok x.0) []) (length word + (length bytes - length x.1))) (timescale_in bytes)
    else (if bytes_eq word (codes "`celldefine") || bytes_eq word (codes "`endcelldefine") then Some (Stands (Directs (Ok directive.Cells) []) (length word)) else None)

-- the same, by the bytes after the backquote
unfoldable pub directive_in : List ℕ → Option Piece
directive_in bs = let n = prefix_len is_name_byte bs in if begins is_letter bs then directive_by (96 ∷ take n bs) (drop n bs) else None

-- ---- all of them

-- ) , ; # [ ] and :
abbrev pub marks : List (ℕ × Token)
marks =
    (41, Mark symbol.Close) ∷ (44, Mark symbol.Comma) ∷ (59, Mark symbol.Semicolon) ∷ (35, Mark symbol.Hash) ∷
    (91, Mark symbol.LeftBracket) ∷ (93, Mark symbol.RightBracket) ∷ (58, Mark symbol.Colon) ∷ []

unfoldable pub piece_in : List ℕ → Option Piece
piece_in [] = None
piece_in (b ∷ bs) =
    if is_blank b then Some (Gap (prefix_len is_blank (b ∷ bs)))
    else (if is_letter b then (let n = prefix_len is_name_byte (b ∷ bs) in let w = take n (b ∷ bs) in stands n (word_by (keyword_of w) w))
    else (if is_ascii_digit b then number_by (b ∷ bs) (numeral_at (b ∷ bs))
    else (if b == 47 then comment_in bs
    else (if b == 40 then open_in bs
    else (if b == 92 then escaped_in bs
    else (if b == 96 then directive_in bs
    else stands 1 (beside (λ c. b == c) marks)))))))
