-- The number of the digits in front, byte by byte.
use Rattle.std.proofs.Common.{◌≡◌, ℕ, suc, ◌+◌, ◌-◌, ◌*◌, ◌<◌, ◌≤◌, true, false, cond, List, [], ◌∷◌, length, drop, get_or, refl, sym, ap, ◌∙◌, add-one, arith}
use Rattle.std.specs.Char.{is_ascii_digit}
use Rattle.std.proofs.lemmas.List.{nil_from_length, length-drop}
use Rattle.std.proofs.Math.Seq.{drop-cons}
use Rattle.td_certificate.specs.Reading.{front_number}

front_at : (number b : ℕ) (rest : List ℕ) → front_number number (b ∷ rest) ≡ cond (is_ascii_digit b) (front_number (10 * number + (b - 48)) rest) number
unfolding front_number
front_at number b rest = refl

-- a byte that is no digit ends it
pub front_ends : (number i : ℕ) (bytes : List ℕ) (total : ℕ) → i < length bytes → is_ascii_digit (get_or bytes i 0) ≡ false
    → front_number number (drop i bytes) ≡ total → number ≡ total
front_ends number i bytes total lt none so_far =
    sym (ap (front_number number) (drop-cons bytes i 0 lt) ∙ front_at number (get_or bytes i 0) (drop (suc i) bytes) ∙ rw none refl) ∙ so_far

-- a digit goes on
pub front_more : (number next i : ℕ) (bytes : List ℕ) (total : ℕ) → i < length bytes → is_ascii_digit (get_or bytes i 0) ≡ true → next ≡ 10 * number + (get_or bytes i 0 - 48)
    → front_number number (drop i bytes) ≡ total → front_number next (drop (i + 1) bytes) ≡ total
front_more number next i bytes total lt digit is so_far =
    rw is (sym (ap (front_number number) (drop-cons bytes i 0 lt) ∙ front_at number (get_or bytes i 0) (drop (suc i) bytes) ∙ rw (digit, add-one) refl) ∙ so_far)

pub front_done : (number i : ℕ) (bytes : List ℕ) (total : ℕ) → length bytes ≤ i → front_number number (drop i bytes) ≡ total → number ≡ total
unfolding front_number
front_done number i bytes total le so_far =
    let none : drop i bytes ≡ [] = nil_from_length (drop i bytes) (omega (arith, length-drop i bytes)) in
    sym (ap (front_number number) none) ∙ so_far

-- further digits make no number less
pub front_grows : (number : ℕ) (bytes : List ℕ) → number ≤ front_number number bytes
unfolding front_number
front_grows number [] = omega arith
front_grows number (b ∷ rest) =
    elim (is_ascii_digit b) as (λ t. number ≤ cond t (front_number (10 * number + (b - 48)) rest) number) [
      | true ↦ omega (arith, front_grows (10 * number + (b - 48)) rest)
      | false ↦ omega arith
    ]

-- what passes the most does so with all further digits
pub front_above : (most number : ℕ) (bytes : List ℕ) (total : ℕ) → most < number → front_number number bytes ≡ total → most < total
front_above most number bytes total above so_far = omega (arith, front_grows number bytes)
