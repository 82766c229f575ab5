-- Steps that are kept as the text of their lines.
use Rattle.std.specs.Prelude.{◌≡◌, ℕ, List, [], ◌∷◌, ◌++◌, codes, Option, Some, None, Ok, Err}
use Rattle.std.specs.List.{AllByRecursion}
use Rattle.td_refutation.specs.declared.kind.StepKind.{StepKind}
use Rattle.td_refutation.specs.Whole.{Step}
use Rattle.td_certificate.specs.Steps.{Refuted, steps_text, IsStep}
use Rattle.td_certificate.specs.Fields.{Reading}
use Rattle.td_certificate.specs.StepReading.{refuted_at}

abbrev pub steps_read : Reading Refuted → List Step
steps_read (Ok x) = x.0.steps
steps_read (Err stop) = []

-- the steps of these lines: those that are read where the line of a bound follows
abbrev pub steps_in : List ℕ → List Step
steps_in lines = steps_read (refuted_at (lines ++ codes "q 0\n"))

abbrev pub refuted_by : List ℕ → Option ℕ → Refuted
refuted_by lines bound = record { steps = steps_in lines; bound = bound }

-- the lines are those of steps
pub record AreLines (lines : List ℕ) : Type 0 where
  pub parts : lines ≡ steps_text (steps_in lines)
  pub steps : AllByRecursion IsStep (steps_in lines)

-- the first of these steps was taken, or there was none
abbrev pub IsNext : List Step → List Step → List ℕ → Option StepKind → Type 0
IsNext steps others numbers None = steps ≡ []
IsNext steps others numbers (Some kind) = steps ≡ record { kind = kind; numbers = numbers } ∷ others
