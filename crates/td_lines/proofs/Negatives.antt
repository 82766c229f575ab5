-- A minus and decimal digits are a number of JSON.
use Rattle.std.proofs.Common.{◌≡◌, ℕ, zero, suc, ◌^◌, ◌<◌, false, cond, ◌==◌, List, [], ◌∷◌, drop, get_or, Some, option_and_then, decimal, ap, subst, arith}
use Rattle.std.proofs.lemmas.Bool.{ne_eqb}
use Rattle.std.proofs.lemmas.Fmt.{decimal_digit, first_decimal}
use Rattle.json.specs.Word.{head, after_whole, after_fraction, after_exponent, after_number}
use Rattle.json.specs.Print.{IsNumber}
use Rattle.json.proofs.Printed.Decimals.{IsNumber-decimal}

-- a digit after 0 is no minus
no_minus_in : (digits : List ℕ) → 48 < get_or digits 0 0 → (head digits == 45) ≡ false
no_minus_in [] first = absurd (omega arith)
no_minus_in (digit ∷ digits) first = ne_eqb digit 45 (λ e. omega arith)

no_minus : (number : ℕ) → number < 2 ^ 64 → (head (decimal number) == 45) ≡ false
no_minus zero fits = ap (λ (digits : List ℕ). head digits == 45) (decimal_digit 0 (omega arith))
no_minus (suc number) fits = no_minus_in (decimal (suc number)) (first_decimal (suc number) (omega arith) fits)

pub negative_number : (number : ℕ) → number < 2 ^ 64 → IsNumber (45 ∷ decimal number)
unfolding after_number
negative_number number fits =
    subst (λ (text : List ℕ). option_and_then after_exponent (option_and_then after_fraction (after_whole text)) ≡ Some [])
    (ap (λ minus. cond minus (drop 1 (decimal number)) (decimal number)) (no_minus number fits)) (IsNumber-decimal number fits)
