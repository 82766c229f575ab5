-- Each piece takes at least one byte, and none past the end.
use Rattle.std.proofs.Common.{◌≡◌, ℕ, suc, ◌+◌, ◌≤◌, ◌<◌, Bool, true, false, not, cond, List, [], ◌∷◌, length, take, drop, Option, Some, None, Result, Ok, Err, zero, refl, sym, ap, subst, ◌∙◌, arith, length-drop, length-append}
use Rattle.std.specs.Prelude.{◌||◌, ◌==◌, IfSome}
use Rattle.std.specs.List.{prefix_len}
use Rattle.std.specs.Option.{option_map}
use Rattle.std.specs.Char.{is_ascii_digit, is_ascii_alphanumeric}
use Rattle.std.specs.Int.{is_in_range}
use Rattle.std.specs.Str.{bytes_eq}
use Rattle.std.specs.Prelude.{codes}
use Rattle.std.proofs.lemmas.List.{take-append-drop}
use Rattle.std.proofs.lemmas.List.Sums.{prefix_len-le-length}
use Rattle.std.proofs.Math.Seq.{drop-nil}
use Rattle.td_syntax.specs.declared.attribute.Place.{Place}
use Rattle.td_syntax.specs.declared.attribute.Place.TheVariants as place
use Rattle.td_syntax.specs.declared.token.Directive.{Directive}
use Rattle.td_syntax.specs.declared.token.Unread.{Unread}
use Rattle.td_nets.specs.Letters.{is_letter, is_name_byte}
use Rattle.td_syntax.specs.Bytes.{is_blank, is_run_byte, is_number_byte, is_printable, is_newline, is_point, is_quote, begins}
use Rattle.td_syntax.specs.Timescales.{timescale_at}
use Rattle.td_syntax.specs.Token.{Numeral}
use Rattle.td_syntax.specs.Pieces.{numeral_at, ends_name, comment_end}
use Rattle.td_syntax.specs.Lexical.{Piece, Takes, piece_at, slash_at, open_at, numeral_or, number_by, number_at, constant_at, escaped_at, timescale_piece, directive_of, directive_at, char_at, comment_of, closes, behind_byte, end_behind, attribute_of}
use Rattle.td_syntax.proofs.Searches.{close_within, first_close}

either : (len : ℕ) (b : Bool) (x y : Piece) → (b ≡ true → Takes x len) → (b ≡ false → Takes y len) → Takes (cond b x y) len
either len true x y p q = p refl
either len false x y p q = q refl

some_run : (p : ℕ → Bool) (b : ℕ) (bs : List ℕ) → p b ≡ true → 0 < prefix_len p (b ∷ bs)
some_run p b bs h = rw h (omega arith)

names : (upper lower under digit dollar : Bool) → (upper || lower || under) ≡ true → (digit || upper || lower || under || dollar) ≡ true
names upper lower under true dollar h = refl
names true lower under false dollar h = refl
names false true under false dollar h = refl
names false false true false dollar h = refl
names false false false false dollar h = absurd cc

name_from_letter : (b : ℕ) → is_letter b ≡ true → is_name_byte b ≡ true
name_from_letter b h = names (is_in_range 65 90 b) (is_in_range 97 122 b) (b == 95) (is_in_range 48 57 b) (b == 36) h

run_from_digit : (b : ℕ) → is_ascii_digit b ≡ true → is_run_byte b ≡ true
run_from_digit b h = rw h refl

comment_takes : (bs : List ℕ) (r : Option ℕ) → IfSome r (λ n. n + 2 ≤ length bs) → Takes (comment_of r) (suc (suc (length bs)))
comment_takes bs None h = tt
comment_takes bs (Some n) h = (omega arith, omega arith)

slash_takes : (bs : List ℕ) → Takes (slash_at bs) (suc (length bs))
slash_takes [] = (omega arith, omega arith)
slash_takes (c ∷ bs) =
    either _ (c == 47) _ _
    (λ _. (omega arith, omega (arith, prefix_len-le-length (λ b. not (is_newline b)) bs)))
    (λ _. either _ (c == 42) _ _ (λ _. comment_takes bs (comment_end bs) (close_within bs (comment_end bs) (first_close bs))) (λ _. (omega arith, omega arith)))

-- ---- attributes

either_within : (n : ℕ) (b : Bool) (x y : Option ℕ) → IfSome x (λ k. k ≤ n) → IfSome y (λ k. k ≤ n) → IfSome (cond b x y) (λ k. k ≤ n)
either_within n true x y p q = p
either_within n false x y p q = q

one_more : (n : ℕ) (r : Option ℕ) → IfSome r (λ k. k ≤ n) → IfSome (option_map (λ k. suc k) r) (λ k. k ≤ suc n)
one_more n None h = tt
one_more n (Some k) h = omega (arith, h)

pub attribute_within : (p : Place) (bs : List ℕ) → IfSome (end_behind p bs) (λ n. n ≤ length bs)
unfolding end_behind
attribute_within p [] = tt
attribute_within p (b ∷ bs) = either_within (suc (length bs)) (closes p b) _ _ (omega arith) (one_more (length bs) (end_behind (behind_byte p b) bs) (attribute_within (behind_byte p b) bs))

attribute_takes : (bs : List ℕ) (r : Option ℕ) → IfSome r (λ n. n ≤ length bs) → Takes (attribute_of r) (suc (suc (length bs)))
attribute_takes bs None h = tt
attribute_takes bs (Some n) h = (omega arith, omega (arith, h))

open_takes : (bs : List ℕ) → Takes (open_at bs) (suc (length bs))
open_takes [] = (omega arith, omega arith)
open_takes (c ∷ bs) = either _ (c == 42) _ _ (λ _. attribute_takes bs (end_behind place.Plain bs) (attribute_within place.Plain bs)) (λ _. (omega arith, omega arith))

-- ---- numbers

begins_within : (p : ℕ → Bool) (n : ℕ) (bytes : List ℕ) → begins p (drop n bytes) ≡ true → n < length bytes
begins_within p n [] h = (let none : begins p [] ≡ true = rw (drop-nil n) at h in absurd cc)
begins_within p zero (b ∷ bytes) h = omega arith
begins_within p (suc n) (b ∷ bytes) h = omega (arith, begins_within p n bytes h)

constant_takes : (n : ℕ) (bytes : List ℕ) → begins is_quote (drop n bytes) ≡ true → Takes (constant_at n bytes) (length bytes)
constant_takes n bytes h =
    let rest : prefix_len is_ascii_alphanumeric (drop 1 (drop n bytes)) ≤ length (drop 1 (drop n bytes)) = prefix_len-le-length is_ascii_alphanumeric (drop 1 (drop n bytes)) in
    (omega arith, omega (arith, rest, length-drop 1 (drop n bytes), length-drop n bytes, begins_within is_quote n bytes h))

number_from_digit : (b : ℕ) → is_ascii_digit b ≡ true → is_number_byte b ≡ true
number_from_digit b h = rw h refl

abbrev Fits : List ℕ → Option (Numeral × ℕ) → Type 0
Fits bytes o = IfSome o (λ x. (0 < x.1) × (x.1 ≤ length bytes))

either_fits : (bytes : List ℕ) (b : Bool) (x y : Option (Numeral × ℕ)) → (b ≡ true → Fits bytes x) → (b ≡ false → Fits bytes y) → Fits bytes (cond b x y)
either_fits bytes true x y p q = p refl
either_fits bytes false x y p q = q refl

numeral_fits : (b : ℕ) (bs : List ℕ) → is_ascii_digit b ≡ true → Fits (b ∷ bs) (numeral_at (b ∷ bs))
unfolding numeral_at
numeral_fits b bs h =
    let n = prefix_len is_number_byte (b ∷ bs) in
    let rest = drop 1 (drop n (b ∷ bs)) in
    let low : 0 < n = some_run is_number_byte b bs (number_from_digit b h) in
    let high : n ≤ suc (length bs) = prefix_len-le-length is_number_byte (b ∷ bs) in
    let more : prefix_len is_number_byte rest ≤ length rest = prefix_len-le-length is_number_byte rest in
    either_fits (b ∷ bs) (begins is_point (drop n (b ∷ bs))) _ _
    (λ p. either_fits (b ∷ bs) (begins is_ascii_digit rest) _ _
    (λ _. (omega arith, omega (arith, more, length-drop 1 (drop n (b ∷ bs)), length-drop n (b ∷ bs), begins_within is_point n (b ∷ bs) p)))
    (λ _. tt))
    (λ _. (low, high))

numeral_or_takes : (b : ℕ) (bs : List ℕ) (x : Numeral × ℕ) → is_ascii_digit b ≡ true → (0 < x.1) × (x.1 ≤ suc (length bs)) → Takes (numeral_or (b ∷ bs) x) (suc (length bs))
numeral_or_takes b bs x h fits =
    either _ (begins is_quote (drop x.1 (b ∷ bs))) _ _ (λ q. constant_takes x.1 (b ∷ bs) q)
    (λ _. either _ (begins is_name_byte (drop x.1 (b ∷ bs))) _ _ (λ _. (some_run is_run_byte b bs (run_from_digit b h), prefix_len-le-length is_run_byte (b ∷ bs))) (λ _. fits))

number_by_takes : (b : ℕ) (bs : List ℕ) (o : Option (Numeral × ℕ)) → is_ascii_digit b ≡ true → Fits (b ∷ bs) o → Takes (number_by (b ∷ bs) o) (suc (length bs))
number_by_takes b bs None h fits = tt
number_by_takes b bs (Some x) h fits = numeral_or_takes b bs x h fits

number_takes : (b : ℕ) (bs : List ℕ) → is_ascii_digit b ≡ true → Takes (number_at (b ∷ bs)) (suc (length bs))
unfolding number_at
number_takes b bs h = number_by_takes b bs (numeral_at (b ∷ bs)) h (numeral_fits b bs h)

-- ---- other characters

escaped_takes : (bs : List ℕ) → Takes (escaped_at bs) (suc (length bs))
unfolding escaped_at
escaped_takes bs =
    let n = prefix_len is_printable bs in
    either _ (ends_name (drop n bs)) _ _
    (λ _. either _ (n == 0) _ _ (λ _. tt) (λ _. (omega arith, omega (arith, prefix_len-le-length is_printable bs))))
    (λ _. tt)

parts_take : (word bytes : List ℕ) (r : Result (Directive × List ℕ) Unread) → 0 < length word → Takes (timescale_piece word bytes r) (length word + length bytes)
parts_take word bytes (Ok x) some = (omega (arith, some), omega arith)
parts_take word bytes (Err e) some = (omega (arith, some), omega arith)

directive_of_takes : (word bytes : List ℕ) → 0 < length word → Takes (directive_of word bytes) (length word + length bytes)
unfolding directive_of
directive_of_takes word bytes some =
    either _ (bytes_eq word (codes "`timescale")) _ _ (λ _. parts_take word bytes (timescale_at bytes) some)
    (λ _. either _ (bytes_eq word (codes "`celldefine") || bytes_eq word (codes "`endcelldefine")) _ _ (λ _. (some, omega arith)) (λ _. (some, omega arith)))

directive_takes : (bs : List ℕ) → Takes (directive_at bs) (suc (length bs))
unfolding directive_at
directive_takes bs =
    let n = prefix_len is_name_byte bs in
    let whole : length (take n bs) + length (drop n bs) ≡ length bs = sym (length-append (take n bs) (drop n bs)) ∙ ap length (take-append-drop n bs) in
    let same : length (96 ∷ take n bs) + length (drop n bs) ≡ suc (length bs) = omega (arith, whole) in
    either _ (begins is_letter bs) _ _ (λ _. subst (λ (k : ℕ). Takes (directive_of (96 ∷ take n bs) (drop n bs)) k) same (directive_of_takes (96 ∷ take n bs) (drop n bs) (omega arith))) (λ _. (omega arith, omega arith))

char_takes : (b : ℕ) (bs : List ℕ) → Takes (char_at b bs) (suc (length bs))
unfolding char_at
char_takes b bs =
    either _ (b == 92) _ _ (λ _. escaped_takes bs)
    (λ _. either _ (b == 96) _ _ (λ _. directive_takes bs) (λ _. (omega arith, omega arith)))

pub piece_takes : (bytes : List ℕ) → Takes (piece_at bytes) (length bytes)
unfolding piece_at
piece_takes [] = tt
piece_takes (b ∷ bs) =
    either _ (is_blank b) _ _ (λ h. (some_run is_blank b bs h, prefix_len-le-length is_blank (b ∷ bs)))
    (λ _. either _ (is_letter b) _ _ (λ h. (some_run is_name_byte b bs (name_from_letter b h), prefix_len-le-length is_name_byte (b ∷ bs)))
    (λ _. either _ (is_ascii_digit b) _ _ (λ h. number_takes b bs h)
    (λ _. either _ (b == 47) _ _ (λ _. slash_takes bs)
    (λ _. either _ (b == 40) _ _ (λ _. open_takes bs)
    (λ _. either _ (is_printable b) _ _ (λ _. char_takes b bs) (λ _. tt))))))

pub takes_as : (p : Piece) (bytes : List ℕ) → p ≡ piece_at bytes → Takes p (length bytes)
takes_as p bytes e = subst (λ (q : Piece). Takes q (length bytes)) (sym e) (piece_takes bytes)
