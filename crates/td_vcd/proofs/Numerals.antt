-- The decimal digits of a number.
use Rattle.std.proofs.Common.{◌≡◌, ℕ, zero, suc, ◌+◌, ◌-◌, ◌*◌, ◌/◌, ◌%◌, ◌^◌, ◌<◌, false, List, [], ◌∷◌, refl, arith, inl, inr, ap, ◌∙◌, pow-suc}
use Rattle.std.specs.Prelude.{decimal}
use Rattle.std.specs.Fmt.{digit_glyph, digits_onto, digits}
use Rattle.std.proofs.lemmas.Bool.{cases_lt, lt-ltb, eq-eqb, ne_eqb}
use Rattle.td_vcd.specs.Text.{numeral}

glyph_is : (digit : ℕ) → digit < 10 → digit_glyph false digit ≡ 48 + digit
glyph_is digit low = rw (lt-ltb digit 10 low) refl

-- ---- read back

-- the number whose digits are those of this one and then these
abbrev pub value_after : ℕ → List ℕ → ℕ
value_after number [] = number
value_after number (digit ∷ others) = value_after (10 * number + (digit - 48)) others

digit_last : (number before digit : ℕ) → before ≡ number / 10 → digit ≡ 48 + number % 10 → 10 * before + (digit - 48) ≡ number
digit_last number before digit is shown = omega (arith, is, shown)

onto-value : (k number : ℕ) (others : List ℕ) → number < k → value_after 0 (digits_onto k 10 false number others) ≡ value_after number others
onto-value zero number others low = absurd (omega arith)
onto-value (suc k) number others low = elim (cases_lt number 10) [
  | inl last ↦
      rw (eq-eqb (number / 10) 0 (omega (arith, last)))
      (ap (λ (v : ℕ). value_after v others) (digit_last number 0 (digit_glyph false (number % 10)) (omega (arith, last)) glyph))
  | inr more ↦
      rw (ne_eqb (number / 10) 0 (λ same. omega (arith, more, same)))
      (onto-value k (number / 10) (digit_glyph false (number % 10) ∷ others) (omega (arith, low, more))
      ∙ ap (λ (v : ℕ). value_after v others) (digit_last number (number / 10) (digit_glyph false (number % 10)) refl glyph))
]
  where
    glyph : digit_glyph false (number % 10) ≡ 48 + number % 10
    glyph = glyph_is (number % 10) (omega arith)

pub numeral-value : (number : ℕ) → value_after 0 (numeral number) ≡ number
unfolding numeral
numeral-value number = onto-value (suc number) number [] (omega arith)

-- ---- as std writes it

front_low : (number bound whole : ℕ) → whole ≡ bound * 10 → number < whole → number / 10 < bound
front_low number bound whole is low = omega (arith, is, low)

-- any bound that is high enough gives the same digits
same_digits : (j k number : ℕ) (others : List ℕ) → number < 10 ^ suc j → number < k
    → digits_onto (suc j) 10 false number others ≡ digits_onto k 10 false number others
same_digits j zero number others low few = absurd (omega arith)
same_digits zero (suc k) number others low few = rw (eq-eqb (number / 10) 0 (omega (arith, low))) refl
same_digits (suc j) (suc k) number others low few = elim (cases_lt number 10) [
  | inl last ↦ rw (eq-eqb (number / 10) 0 (omega (arith, last))) refl
  | inr more ↦
      rw (ne_eqb (number / 10) 0 (λ same. omega (arith, more, same)))
      (same_digits j k (number / 10) (digit_glyph false (number % 10) ∷ others)
      (front_low number (10 ^ suc j) (10 ^ suc (suc j)) (pow-suc 10 (suc j)) low) (omega (arith, few, more)))
]

pub numeral_is : (number : ℕ) → number < 2 ^ 64 → decimal number ≡ numeral number
unfolding numeral digits
numeral_is number low = same_digits 63 (suc number) number [] (omega (arith, low)) (omega arith)
