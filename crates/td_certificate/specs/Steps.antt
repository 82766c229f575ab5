-- Steps of a refutation, those that have variables among them, and the lines that spell them.
use Rattle.std.specs.Prelude.{ℕ, ◌≤◌, ◌^◌, List, [], ◌∷◌, ◌++◌, codes, decimal, Option, Some, None}
use Rattle.std.specs.List.{flat_map, AllByRecursion}
use Rattle.td_refutation.specs.declared.kind.StepKind.{StepKind}
use Rattle.td_refutation.specs.Whole.{Step}
use Rattle.td_refutation.specs.declared.kind.StepKind.TheVariants.{First, Last, Span, Flips, Gate, Table, Net, Pairs, Keep, Lemma, End, Again}

-- the greatest number of a certificate
abbrev pub greatest : ℕ
greatest = 10 ^ 18

-- the letter of a kind
abbrev pub kind_byte : StepKind → ℕ
kind_byte First = 105
kind_byte Last = 102
kind_byte Span = 119
kind_byte Flips = 99
kind_byte Gate = 103
kind_byte Table = 116
kind_byte Net = 110
kind_byte Pairs = 117
kind_byte Keep = 107
kind_byte Lemma = 108
kind_byte End = 101
kind_byte Again = 114

-- numbers, each after a space
abbrev pub spaced : List ℕ → List ℕ
spaced [] = []
spaced (number ∷ others) = 32 ∷ (decimal number ++ spaced others)

-- the line of a step and its newline
abbrev pub step_text : Step → List ℕ
step_text step = kind_byte step.kind ∷ (spaced step.numbers ++ 10 ∷ [])

abbrev pub steps_text : List Step → List ℕ
steps_text steps = flat_map step_text steps

-- its numbers are at most the greatest of a certificate
abbrev pub IsStep : Step → Type 0
IsStep step = AllByRecursion (λ number. number ≤ 10 ^ 18) step.numbers

-- a number, or `none`
abbrev pub or_none : Option ℕ → List ℕ
or_none None = codes "none"
or_none (Some number) = decimal number

-- a bound that steps are to show; none where they are to show that no admitted pair lies in the cube
pub record Refuted : Type 0 where
  pub steps : List Step
  pub bound : Option ℕ

-- the lines of a leaf that is refuted, but for the last newline
abbrev pub refuted_line : Refuted → List ℕ
refuted_line refuted = codes "x\n" ++ (steps_text refuted.steps ++ (codes "q " ++ or_none refuted.bound))

-- at most the greatest of a certificate, if it is a number
abbrev pub IsBoundText : Option ℕ → Type 0
IsBoundText None = Unit {0}
IsBoundText (Some bound) = bound ≤ 10 ^ 18

pub record IsRefutedText (refuted : Refuted) : Type 0 where
  pub steps : AllByRecursion IsStep refuted.steps
  pub bound : IsBoundText refuted.bound
