-- Cubes that share out the admitted pairs of a question.
use Rattle.std.specs.Prelude.{◌≡◌, ℕ, List, slice_get, Some}
use Rattle.td_domain.specs.declared.cubes.Trit.{Trit}
use Rattle.td_domain.specs.Pairs.{Pair}
use Rattle.td_domain.specs.Cubes.{IsIn}
use Rattle.td_domain.specs.Admits.{Admitted, IsAdmitted}

-- the pair lies in the cube of one place, and in that of no other
pub record LiesInOne (pair : Pair) (cubes : List (List Trit)) : Type 0 where
  pub place : ℕ
  pub cube : List Trit
  pub at : slice_get cubes place ≡ Some cube
  pub inside : IsIn pair cube
  pub in_no_other : (other : ℕ) (that : List Trit) → slice_get cubes other ≡ Some that → IsIn pair that → other ≡ place

-- each admitted pair lies in exactly one of the cubes
abbrev pub IsPartition : Admitted → List (List Trit) → Type 0
IsPartition admit cubes = (pair : Pair) → IsAdmitted admit pair → LiesInOne pair cubes
