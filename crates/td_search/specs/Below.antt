-- Internal: what is split and closed below a leaf before the book knows of it.
use Rattle.std.specs.Prelude.{◌≡◌, ◌<◌, ◌≤◌, ◌⊎◌, ◌++◌, ℕ, List, [], ◌∷◌, length, map, vec_capacity}
use Rattle.std.specs.List.{AllByRecursion}
use Rattle.td_domain.specs.declared.cubes.Trit.{Trit}
use Rattle.td_book.specs.declared.lease.Lease.{Lease}
use Rattle.td_book.specs.Board.{position_of}
use Rattle.td_book.specs.Grafting.{cubes_left}
use Rattle.td_search.specs.declared.below.Below.{Below}
use Rattle.td_search.specs.declared.findings.Finding.{Finding}
use Rattle.td_search.specs.Findings.{AreTrueFindings, split_at, state_of}
use Rattle.td_search.specs.Problems.{Problem, IsPart}

-- a cube of the circuit's vectors, and a part of the pins
abbrev pub IsWithin : Problem → List Trit → Type 0
IsWithin asked cube = (length cube ≡ length asked.admit.pins) × IsPart cube asked.admit.pins

-- What was split and closed below a leaf is what was found there, one after another, and all of it
-- is true. What comes next is a part of the pins. There is room for as many findings as the lease
-- allows.
pub record IsBelow (asked : Problem) (lease : Lease) (below : Below) : Type 0 where
  pub cube : below.subtree.cube ≡ lease.cube
  pub allowance : below.subtree.allowance ≡ lease.allowance
  pub positions : map position_of below.subtree.states ≡ map split_at below.findings.items
  pub found : AreTrueFindings asked (lease.cube ∷ []) below.findings.items
  pub coming : AllByRecursion (IsWithin asked) (cubes_left below.subtree.states (below.subtree.cube ∷ []))
  pub few : length below.subtree.states ≤ lease.allowance
  pub space : lease.allowance ≤ vec_capacity below.findings

-- this cube comes next, and the allowance lets it be split or closed
pub record IsComing (asked : Problem) (lease : Lease) (below : Below) (cube : List Trit) : Type 0 where
  pub rest : List (List Trit)
  pub is : cubes_left below.subtree.states (below.subtree.cube ∷ []) ≡ cube ∷ rest
  pub within : IsWithin asked cube
  pub allowed : length below.subtree.states < lease.allowance

-- the allowance is used up, or nothing is left below the leaf
abbrev pub IsDone : Lease → Below → Type 0
IsDone lease below = (lease.allowance ≤ length below.subtree.states) ⊎ (cubes_left below.subtree.states (below.subtree.cube ∷ []) ≡ [])

-- the leaf that came next is split or closed under this cut, as this was found of it
pub record IsSettledBy (finding : Finding) (cut : ℕ) (before after : Below) : Type 0 where
  pub tree : after.subtree ≡ record before.subtree { states = before.subtree.states ++ state_of cut finding ∷ [] }
  pub findings : after.findings.items ≡ before.findings.items ++ finding ∷ []
