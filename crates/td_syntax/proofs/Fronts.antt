-- What stands at the front of a text, as the grammar sees it and as faults are reported.
use Rattle.std.proofs.Common.{◌≡◌, ℕ, ◌+◌, Bool, true, false, cond, List, [], ◌∷◌, length, take, drop, Option, Some, None, Result, Ok, Err, refl, sym, ap, ◌∙◌}
use Rattle.std.specs.Prelude.{◌==◌, ◌||◌, ◌-◌, codes}
use Rattle.std.specs.List.{prefix_len, list_any}
use Rattle.std.specs.Option.{option_map}
use Rattle.std.specs.Char.{is_ascii_digit}
use Rattle.std.specs.Str.{bytes_eq}
use Rattle.std.proofs.lemmas.Bool.{eqb-true}
use Rattle.td_nets.specs.declared.keyword.Keyword.{Keyword}
use Rattle.td_syntax.specs.declared.token.Directive.{Directive}
use Rattle.td_syntax.specs.declared.token.Unread.{Unread}
use Rattle.td_syntax.specs.declared.token.Stop.TheVariants.{End, Bad}
use Rattle.td_syntax.specs.declared.attribute.Place.TheVariants as place
use Rattle.td_nets.specs.Letters.{is_letter, is_name_byte}
use Rattle.td_syntax.specs.Bytes.{is_blank, is_printable, is_quote, begins}
use Rattle.td_nets.specs.Words.{reserved_words}
use Rattle.td_syntax.specs.Token.{Numeral, Token, Name, Escaped, Reserved, Number, Constant, Mark, Attribute, Directs, Outside}
use Rattle.td_syntax.specs.Timescales.{timescale_at}
use Rattle.td_syntax.specs.Pieces as pieces
use Rattle.td_nets.specs.Keywords.{beside}
use Rattle.td_syntax.specs.Pieces.{Gap, Stands, stands, escaped_in, ends_name, comment_end, comment_in, numeral_at, constant_in, open_in, directive_by, directive_in, marks, piece_in}
use Rattle.td_syntax.specs.Lexical.{Piece, Space, Found, Last, word_as, comment_of, slash_at, constant_of, number_by, number_at, escaped_at, timescale_piece, directive_of, directive_at, end_behind, attribute_of, mark_of, char_at, open_at, piece_at}
use Rattle.td_syntax.proofs.Attributing.{same_end}
use Rattle.td_syntax.proofs.SameSpans.{told, same_timescale}

-- a token that the grammar has
abbrev pub seen_as : Token → ℕ → Option pieces.Piece
seen_as (Name w) n = Some (Stands (Name w) n)
seen_as (Escaped w) n = Some (Stands (Name (drop 1 w)) n)
seen_as (Reserved k) n = Some (Stands (Reserved k) n)
seen_as (Number m) n = Some (Stands (Number m) n)
seen_as (Constant b w) n = Some (Stands (Constant b []) n)
seen_as (Mark m) n = Some (Stands (Mark m) n)
seen_as Attribute n = Some (Stands Attribute n)
seen_as (Directs (Ok d) w) n = Some (Stands (Directs (Ok d) []) n)
seen_as (Directs (Err e) w) n = None
seen_as (Outside w) n = None

abbrev pub seen : Piece → Option pieces.Piece
seen (Space n) = Some (Gap n)
seen (Found t n) = seen_as t n
seen (Last stop) = None

-- where the same is chosen
chosen : (b : Bool) (x y : Piece) (z w : Option pieces.Piece) → (b ≡ true → seen x ≡ z) → (b ≡ false → seen y ≡ w) → seen (cond b x y) ≡ cond b z w
chosen true x y z w p q = p refl
chosen false x y z w p q = q refl

chosen_token : (n : ℕ) (b : Bool) (t u : Token) (r s : Option Token) → seen_as t n ≡ stands n r → seen_as u n ≡ stands n s → seen_as (cond b t u) n ≡ stands n (cond b r s)
chosen_token n true t u r s p q = p
chosen_token n false t u r s p q = q

word_seen : (k : Option Keyword) (w : List ℕ) (n : ℕ) → seen_as (word_as k w) n ≡ stands n (pieces.word_by k w)
word_seen (Some k) w n = refl
word_seen None w n = chosen_token n (list_any (λ r. bytes_eq r w) reserved_words) (Outside w) (Name w) None (Some (Name w)) refl refl

constant_seen : (text : List ℕ) (n : ℕ) → seen_as (constant_of text) n ≡ stands n (constant_in text)
unfolding constant_of constant_in
constant_seen text n =
    chosen_token n (bytes_eq text (codes "1'b0") || bytes_eq text (codes "1'B0")) _ _ _ _ refl
    (chosen_token n (bytes_eq text (codes "1'b1") || bytes_eq text (codes "1'B1")) _ _ _ _ refl refl)

number_seen : (bytes : List ℕ) (o : Option (Numeral × ℕ)) → seen (number_by bytes o) ≡ pieces.number_by bytes o
number_seen bytes None = refl
number_seen bytes (Some x) =
    chosen (begins is_quote (drop x.1 bytes)) _ _ _ _ (λ _. constant_seen _ _)
    (λ _. chosen (begins is_name_byte (drop x.1 bytes)) _ _ _ _ (λ _. refl) (λ _. refl))

comment_seen : (o : Option ℕ) → seen (comment_of o) ≡ option_map (λ n. Gap (n + 4)) o
comment_seen None = refl
comment_seen (Some n) = refl

slash_seen : (bs : List ℕ) → seen (slash_at bs) ≡ comment_in bs
slash_seen [] = refl
slash_seen (c ∷ bs) = chosen (c == 47) _ _ _ _ (λ _. refl) (λ _. chosen (c == 42) _ _ _ _ (λ _. comment_seen (comment_end bs)) (λ _. refl))

attribute_seen : (o : Option ℕ) → seen (attribute_of o) ≡ option_map (λ n. Stands Attribute (n + 2)) o
attribute_seen None = refl
attribute_seen (Some n) = refl

open_seen : (bs : List ℕ) → seen (open_at bs) ≡ open_in bs
open_seen [] = refl
open_seen (c ∷ bs) = chosen (c == 42) _ _ _ _ (λ _. attribute_seen (end_behind place.Plain bs) ∙ ap (option_map (λ n. Stands Attribute (n + 2))) (sym (same_end bs).plain)) (λ _. refl)

escaped_seen : (bs : List ℕ) → seen (escaped_at bs) ≡ escaped_in bs
unfolding escaped_at escaped_in
escaped_seen bs =
    let n = prefix_len is_printable bs in
    chosen (ends_name (drop n bs)) _ _ _ _ (λ _. chosen (n == 0) _ _ _ _ (λ _. refl) (λ _. refl)) (λ _. refl)

timescale_seen : (word bytes : List ℕ) (r : Result (Directive × List ℕ) Unread) → seen (timescale_piece word bytes r) ≡ option_map (λ (x : Directive × List ℕ). Stands (Directs (Ok x.0) []) (length word + (length bytes - length x.1))) (told r)
timescale_seen word bytes (Ok x) = refl
timescale_seen word bytes (Err e) = refl

directive_seen : (word bytes : List ℕ) → seen (directive_of word bytes) ≡ directive_by word bytes
unfolding directive_of directive_by
directive_seen word bytes =
    chosen (bytes_eq word (codes "`timescale")) _ _ _ _ (λ _. rw (same_timescale bytes) (timescale_seen word bytes (timescale_at bytes)))
    (λ _. chosen (bytes_eq word (codes "`celldefine") || bytes_eq word (codes "`endcelldefine")) _ _ _ _ (λ _. refl) (λ _. refl))

quoted_seen : (bs : List ℕ) → seen (directive_at bs) ≡ directive_in bs
unfolding directive_at directive_in
quoted_seen bs = chosen (begins is_letter bs) _ _ _ _ (λ _. directive_seen _ _) (λ _. refl)

abbrev mark_in : ℕ → Option Token
mark_in b = beside (λ (c : ℕ). b == c) marks

mark_seen : (b : ℕ) → seen_as (mark_of b) 1 ≡ stands 1 (mark_in b)
unfolding beside
mark_seen b =
    chosen_token 1 (b == 41) _ _ _ _ refl
    (chosen_token 1 (b == 44) _ _ _ _ refl
    (chosen_token 1 (b == 59) _ _ _ _ refl
    (chosen_token 1 (b == 35) _ _ _ _ refl
    (chosen_token 1 (b == 91) _ _ _ _ refl
    (chosen_token 1 (b == 93) _ _ _ _ refl
    (chosen_token 1 (b == 58) _ _ _ _ refl refl))))))

char_seen : (b : ℕ) (bs : List ℕ) → seen (char_at b bs) ≡ cond (b == 92) (escaped_in bs) (cond (b == 96) (directive_in bs) (stands 1 (mark_in b)))
unfolding char_at
char_seen b bs = chosen (b == 92) _ _ _ _ (λ _. escaped_seen bs) (λ _. chosen (b == 96) _ _ _ _ (λ _. quoted_seen bs) (λ _. mark_seen b))

-- a byte that isn't printable is none of the printable ones
isnt : (b k : ℕ) → is_printable b ≡ false → is_printable k ≡ true → (b == k) ≡ false
isnt b k no_b yes_k = by (b == k) refl
  where
    by : (t : Bool) → (b == k) ≡ t → t ≡ false
    by true e = sym yes_k ∙ ap is_printable (sym (eqb-true b k e)) ∙ no_b
    by false e = refl

unprintable : (b : ℕ) (bs : List ℕ) → is_printable b ≡ false → None ≡ cond (b == 92) (escaped_in bs) (cond (b == 96) (directive_in bs) (stands 1 (mark_in b)))
unfolding beside
unprintable b bs h = rw (isnt b 92 h refl, isnt b 96 h refl, isnt b 41 h refl, isnt b 44 h refl, isnt b 59 h refl, isnt b 35 h refl, isnt b 91 h refl, isnt b 93 h refl, isnt b 58 h refl) refl

printable_seen : (b : ℕ) (bs : List ℕ) (t : Bool) → is_printable b ≡ t → seen (cond t (char_at b bs) (Last Bad)) ≡ cond (b == 92) (escaped_in bs) (cond (b == 96) (directive_in bs) (stands 1 (mark_in b)))
printable_seen b bs true h = char_seen b bs
printable_seen b bs false h = unprintable b bs h

-- what the grammar sees in front is what the definition says
pub front_seen : (bytes : List ℕ) → seen (piece_at bytes) ≡ piece_in bytes
unfolding piece_at piece_in number_at
front_seen [] = refl
front_seen (b ∷ bs) =
    chosen (is_blank b) _ _ _ _ (λ _. refl)
    (λ _. chosen (is_letter b) _ _ _ _ (λ _. word_seen _ _ _)
    (λ _. chosen (is_ascii_digit b) _ _ _ _ (λ _. number_seen (b ∷ bs) (numeral_at (b ∷ bs)))
    (λ _. chosen (b == 47) _ _ _ _ (λ _. slash_seen bs)
    (λ _. chosen (b == 40) _ _ _ _ (λ _. open_seen bs) (λ _. printable_seen b bs (is_printable b) refl)))))

-- ---- only the empty text ends

abbrev is_end : Piece → Bool
is_end (Space n) = false
is_end (Found t n) = false
is_end (Last End) = true
is_end (Last stop) = false

goes_on : (b : Bool) (x y : Piece) → is_end x ≡ false → is_end y ≡ false → is_end (cond b x y) ≡ false
goes_on true x y p q = p
goes_on false x y p q = q

number_goes_on : (bytes : List ℕ) (o : Option (Numeral × ℕ)) → is_end (number_by bytes o) ≡ false
number_goes_on bytes None = refl
number_goes_on bytes (Some x) = goes_on (begins is_quote (drop x.1 bytes)) _ _ refl (goes_on (begins is_name_byte (drop x.1 bytes)) _ _ refl refl)

comment_goes_on : (o : Option ℕ) → is_end (comment_of o) ≡ false
comment_goes_on None = refl
comment_goes_on (Some n) = refl

attribute_goes_on : (o : Option ℕ) → is_end (attribute_of o) ≡ false
attribute_goes_on None = refl
attribute_goes_on (Some n) = refl

slash_goes_on : (bs : List ℕ) → is_end (slash_at bs) ≡ false
slash_goes_on [] = refl
slash_goes_on (c ∷ bs) = goes_on (c == 47) _ _ refl (goes_on (c == 42) _ _ (comment_goes_on (comment_end bs)) refl)

open_goes_on : (bs : List ℕ) → is_end (open_at bs) ≡ false
open_goes_on [] = refl
open_goes_on (c ∷ bs) = goes_on (c == 42) _ _ (attribute_goes_on (end_behind place.Plain bs)) refl

timescale_goes_on : (word bytes : List ℕ) (r : Result (Directive × List ℕ) Unread) → is_end (timescale_piece word bytes r) ≡ false
timescale_goes_on word bytes (Ok x) = refl
timescale_goes_on word bytes (Err e) = refl

char_goes_on : (b : ℕ) (bs : List ℕ) → is_end (char_at b bs) ≡ false
unfolding char_at escaped_at directive_at directive_of
char_goes_on b bs =
    let n = prefix_len is_printable bs in
    let k = prefix_len is_name_byte bs in
    let word = 96 ∷ take k bs in
    goes_on (b == 92) _ _ (goes_on (ends_name (drop n bs)) _ _ (goes_on (n == 0) _ _ refl refl) refl)
    (goes_on (b == 96) _ _
    (goes_on (begins is_letter bs) _ _
    (goes_on (bytes_eq word (codes "`timescale")) _ _ (timescale_goes_on word (drop k bs) (timescale_at (drop k bs)))
    (goes_on (bytes_eq word (codes "`celldefine") || bytes_eq word (codes "`endcelldefine")) _ _ refl refl)) refl) refl)

front_goes_on : (b : ℕ) (bs : List ℕ) → is_end (piece_at (b ∷ bs)) ≡ false
unfolding piece_at number_at
front_goes_on b bs =
    goes_on (is_blank b) _ _ refl
    (goes_on (is_letter b) _ _ refl
    (goes_on (is_ascii_digit b) _ _ (number_goes_on (b ∷ bs) (numeral_at (b ∷ bs)))
    (goes_on (b == 47) _ _ (slash_goes_on bs)
    (goes_on (b == 40) _ _ (open_goes_on bs)
    (goes_on (is_printable b) _ _ (char_goes_on b bs) refl)))))

pub ends_empty : (bytes : List ℕ) → piece_at bytes ≡ Last End → bytes ≡ []
ends_empty [] e = refl
ends_empty (b ∷ bs) e = let is : true ≡ false = sym (ap is_end e) ∙ front_goes_on b bs in absurd cc
