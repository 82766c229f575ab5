-- No name among the tokens of a text has a newline.
use Rattle.std.proofs.Common.{◌≡◌, ℕ, ◌+◌, ◌-◌, Bool, true, false, cond, List, [], ◌∷◌, length, take, drop, Option, None, Some, Ok, refl, sym, ap, subst, ◌∙◌, true≢false}
use Rattle.std.specs.Prelude.{◌==◌, ◌||◌, codes}
use Rattle.std.specs.List.{AllByRecursion, prefix_len, take_while, list_any}
use Rattle.std.specs.Option.{option_map}
use Rattle.std.specs.Char.{is_ascii_digit}
use Rattle.std.specs.Str.{bytes_eq}
use Rattle.std.proofs.lemmas.List.Sums.{take_while-cons}
use Rattle.td_nets.specs.declared.keyword.Keyword.{Keyword}
use Rattle.td_nets.specs.Letters.{is_letter, is_name_byte}
use Rattle.td_nets.specs.Words.{reserved_words}
use Rattle.td_nets.specs.Keywords.{beside, keyword_of}
use Rattle.td_syntax.specs.declared.token.Directive.{Directive}
use Rattle.td_syntax.specs.Bytes.{is_blank, is_printable, is_quote, begins}
use Rattle.td_syntax.specs.Token.{Numeral, Token, Name, Attribute, Directs, Placed}
use Rattle.td_syntax.specs.Spans.{timescale_in}
use Rattle.td_syntax.specs.Pieces.{Piece, Gap, Stands, stands, word_by, ends_name, escaped_in, comment_end, comment_in, numeral_at, constant_in, number_by, attribute_end, open_in, directive_by, directive_in, marks, piece_in}
use Rattle.td_syntax.specs.Text.{Lexes, end, gap, token, token_on}
use Rattle.td_vcd.specs.Says.{IsOnOneLine}

-- a token that is a name has no newline
abbrev pub IsFineToken : Token → Type 0
IsFineToken (Name w) = IsOnOneLine w
IsFineToken t = Unit {0}

abbrev pub IsFine : Placed → Type 0
IsFine p = IsFineToken p.token

abbrev IsFinePiece : Option Piece → Type 0
IsFinePiece None = Unit {0}
IsFinePiece (Some (Gap n)) = Unit {0}
IsFinePiece (Some (Stands t n)) = IsFineToken t

-- whichever is chosen
either : (b : Bool) (x y : Option Piece) → IsFinePiece x → IsFinePiece y → IsFinePiece (cond b x y)
either true x y p q = p
either false x y p q = q

either_token : (n : ℕ) (b : Bool) (x y : Option Token) → IsFinePiece (stands n x) → IsFinePiece (stands n y) → IsFinePiece (stands n (cond b x y))
either_token n true x y p q = p
either_token n false x y p q = q

-- bytes that pass a test have no newline where a newline doesn't pass it
passing : (p : ℕ → Bool) → p 10 ≡ false → (bytes : List ℕ) → IsOnOneLine (take_while p bytes)
passing p none [] = tt
passing p none (b ∷ bs) = subst (λ (passed : List ℕ). IsOnOneLine passed) (sym (take_while-cons p b bs)) (go (p b) refl (passing p none bs))
  where
    go : (t : Bool) → p b ≡ t → IsOnOneLine (take_while p bs) → IsOnOneLine (cond t (b ∷ take_while p bs) [])
    go true passes rest = (λ newline. true≢false (sym passes ∙ ap p newline ∙ none), rest)
    go false passes rest = tt

word_fine : (k : Option Keyword) (w : List ℕ) (n : ℕ) → IsOnOneLine w → IsFinePiece (stands n (word_by k w))
word_fine (Some k) w n fine = tt
word_fine None w n fine = either_token n (list_any (λ r. bytes_eq r w) reserved_words) None (Some (Name w)) tt fine

escaped_fine : (bs : List ℕ) → IsFinePiece (escaped_in bs)
unfolding escaped_in
escaped_fine bs =
    let n : ℕ = prefix_len is_printable bs in
    either (ends_name (drop n bs)) _ _ (either (n == 0) _ _ tt (passing is_printable refl bs)) tt

gap_fine : (o : Option ℕ) → IsFinePiece (option_map (λ (n : ℕ). Gap (n + 4)) o)
gap_fine None = tt
gap_fine (Some n) = tt

comment_fine : (bs : List ℕ) → IsFinePiece (comment_in bs)
comment_fine [] = tt
comment_fine (c ∷ bs) = either (c == 47) _ _ tt (either (c == 42) _ _ (gap_fine (comment_end bs)) tt)

constant_fine : (text : List ℕ) (n : ℕ) → IsFinePiece (stands n (constant_in text))
unfolding constant_in
constant_fine text n =
    either_token n (bytes_eq text (codes "1'b0") || bytes_eq text (codes "1'B0")) _ _ tt
    (either_token n (bytes_eq text (codes "1'b1") || bytes_eq text (codes "1'B1")) _ _ tt tt)

number_fine : (bytes : List ℕ) (o : Option (Numeral × ℕ)) → IsFinePiece (number_by bytes o)
number_fine bytes None = tt
number_fine bytes (Some x) =
    either (begins is_quote (drop x.1 bytes)) _ _ (constant_fine _ _) (either (begins is_name_byte (drop x.1 bytes)) _ _ tt tt)

attribute_fine : (o : Option ℕ) → IsFinePiece (option_map (λ (n : ℕ). Stands Attribute (n + 2)) o)
attribute_fine None = tt
attribute_fine (Some n) = tt

open_fine : (bs : List ℕ) → IsFinePiece (open_in bs)
open_fine [] = tt
open_fine (c ∷ bs) = either (c == 42) _ _ (attribute_fine (attribute_end false bs)) tt

timescale_fine : (word bytes : List ℕ) (o : Option (Directive × List ℕ))
    → IsFinePiece (option_map (λ (x : Directive × List ℕ). Stands (Directs (Ok x.0) []) (length word + (length bytes - length x.1))) o)
timescale_fine word bytes None = tt
timescale_fine word bytes (Some x) = tt

directive_fine : (word bytes : List ℕ) → IsFinePiece (directive_by word bytes)
unfolding directive_by
directive_fine word bytes =
    either (bytes_eq word (codes "`timescale")) _ _ (timescale_fine word bytes (timescale_in bytes))
    (either (bytes_eq word (codes "`celldefine") || bytes_eq word (codes "`endcelldefine")) _ _ tt tt)

quoted_fine : (bs : List ℕ) → IsFinePiece (directive_in bs)
unfolding directive_in
quoted_fine bs =
    let n : ℕ = prefix_len is_name_byte bs in
    either (begins is_letter bs) _ _ (directive_fine (96 ∷ take n bs) (drop n bs)) tt

mark_fine : (b : ℕ) → IsFinePiece (stands 1 (beside (λ (c : ℕ). b == c) marks))
unfolding beside
mark_fine b =
    either_token 1 (b == 41) _ _ tt
    (either_token 1 (b == 44) _ _ tt
    (either_token 1 (b == 59) _ _ tt
    (either_token 1 (b == 35) _ _ tt
    (either_token 1 (b == 91) _ _ tt
    (either_token 1 (b == 93) _ _ tt
    (either_token 1 (b == 58) _ _ tt tt))))))

piece_fine : (bytes : List ℕ) → IsFinePiece (piece_in bytes)
unfolding piece_in
piece_fine [] = tt
piece_fine (b ∷ bs) =
    let n : ℕ = prefix_len is_name_byte (b ∷ bs) in
    let w : List ℕ = take n (b ∷ bs) in
    either (is_blank b) _ _ tt
    (either (is_letter b) _ _ (word_fine (keyword_of w) w n (passing is_name_byte refl (b ∷ bs)))
    (either (is_ascii_digit b) _ _ (number_fine (b ∷ bs) (numeral_at (b ∷ bs)))
    (either (b == 47) _ _ (comment_fine bs)
    (either (b == 40) _ _ (open_fine bs)
    (either (b == 92) _ _ (escaped_fine bs)
    (either (b == 96) _ _ (quoted_fine bs) (mark_fine b)))))))

-- the token of a text
token_fine : (bytes : List ℕ) (t : Token) (n : ℕ) → piece_in bytes ≡ Some (Stands t n) → IsFineToken t
token_fine bytes t n is = subst (λ (p : Option Piece). IsFinePiece p) is (piece_fine bytes)

placed_fine : (line : ℕ) (t : Token) → IsFineToken t → IsFine (token_on line t)
placed_fine line (Name w) fine = fine
placed_fine line t fine = fine

-- all tokens of a text
pub tokens_fine : {line : ℕ} {bytes : List ℕ} {ts : List Placed} → Lexes line bytes ts → AllByRecursion IsFine ts
tokens_fine end = tt
tokens_fine (gap is rest) = tokens_fine rest
tokens_fine {line} {bytes} (token {n = n} {t = t} is rest) = (placed_fine line t (token_fine bytes t n is), tokens_fine rest)
