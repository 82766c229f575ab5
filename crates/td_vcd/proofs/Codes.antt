-- The digits of a variable's code.
use Rattle.std.proofs.Common.{◌≡◌, ℕ, zero, suc, ◌+◌, ◌-◌, ◌*◌, ◌/◌, ◌%◌, ◌<◌, ◌≤◌, List, [], ◌∷◌, ◌++◌, refl, arith, inl, inr, sym, ap, ◌∙◌, append_assoc}
use Rattle.std.proofs.lemmas.Bool.{cases_lt, lt-ltb, le-ltb}
use Rattle.td_vcd.specs.Text.{code_within, code}

-- any bound that is high enough gives the same digits
within : (m n number : ℕ) → number < m → number < n → code_within m number ≡ code_within n number
within zero n number low lower = absurd (omega arith)
within (suc m) zero number low lower = absurd (omega arith)
within (suc m) (suc n) number low lower = elim (cases_lt number 94) [
  | inl last ↦ rw (lt-ltb number 94 last) refl
  | inr more ↦ rw (le-ltb number 94 more) (ap (λ (ds : List ℕ). (33 + number % 94) ∷ ds) (within m n (number / 94) (omega arith) (omega arith)))
]

-- the last digit
pub code-last : (number : ℕ) → number < 94 → code number ≡ (33 + number) ∷ []
unfolding code
code-last number last =
    let same : number % 94 ≡ number = omega arith in
    rw (lt-ltb number 94 last, same) refl

-- one digit before the others
pub code-more : (number : ℕ) → 94 ≤ number → code number ≡ (33 + number % 94) ∷ code (number / 94)
unfolding code
code-more number more =
    rw (le-ltb number 94 more) (ap (λ (ds : List ℕ). (33 + number % 94) ∷ ds) (within number (suc (number / 94)) (number / 94) (omega arith) (omega arith)))

-- one turn of the loop
pub code-step : (whole before now : List ℕ) (rest digit : ℕ) → 94 ≤ rest → digit ≡ 33 + rest % 94 → before ++ code rest ≡ whole
    → now ≡ before ++ digit ∷ [] → now ++ code (rest / 94) ≡ whole
code-step whole before now rest digit more is kept grown =
    rw (grown, is) (append_assoc before ((33 + rest % 94) ∷ []) (code (rest / 94)) ∙ ap (λ (t : List ℕ). before ++ t) (sym (code-more rest more)) ∙ kept)

-- the last turn
pub code-end : (whole before now : List ℕ) (rest digit : ℕ) → rest < 94 → digit ≡ 33 + rest → before ++ code rest ≡ whole
    → now ≡ before ++ digit ∷ [] → now ≡ whole
code-end whole before now rest digit last is kept grown =
    grown ∙ ap (λ (d : ℕ). before ++ d ∷ []) is ∙ ap (λ (t : List ℕ). before ++ t) (sym (code-last rest last)) ∙ kept

-- ---- read back

-- the variable of a code
abbrev pub code_value : List ℕ → ℕ
code_value [] = 0
code_value (digit ∷ others) = (digit - 33) + 94 * code_value others

digit_first : (number rest : ℕ) → rest ≡ number / 94 → ((33 + number % 94) - 33) + 94 * rest ≡ number
digit_first number rest is = omega (arith, is)

within-value : (digits number : ℕ) → number < digits → code_value (code_within digits number) ≡ number
within-value zero number low = absurd (omega arith)
within-value (suc digits) number low = elim (cases_lt number 94) [
  | inl last ↦ rw (lt-ltb number 94 last) (digit_first number 0 (omega (arith, last)))
  | inr more ↦ rw (le-ltb number 94 more) (digit_first number _ (within-value digits (number / 94) (omega (arith, low, more))))
]

pub code-value : (number : ℕ) → code_value (code number) ≡ number
unfolding code
code-value number = within-value (suc number) number (omega arith)
