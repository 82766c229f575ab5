-- Internal: parts, and where a search would split them.
use Rattle.std.specs.Prelude.{◌≡◌, ◌<◌, ℕ, List, map, slice_get, Option, Some, None, IfSome, MatchOption}
use Rattle.td_circuit.specs.Settings.{Setting}
use Rattle.td_domain.specs.declared.cubes.Trit.{Trit}
use Rattle.td_domain.specs.declared.cubes.Trit.TheVariants.{Free}
use Rattle.td_certificate.specs.Accepts.{IsBoundBy}
use Rattle.td_search.specs.declared.strategy.Strategy.{Strategy}
use Rattle.td_search.specs.Problems.{strongest}
use Rattle.td_parts.specs.Whole.{IsWhole}
use Rattle.td_parts.specs.declared.split.Split.{Split}
use Rattle.td_parts.specs.declared.part.Part.{Part}

-- the position is free, and the bound is the strongest domain's, and not 0
pub record IsSplit (strategy : Strategy) (given : Setting) (cube : List Trit) (split : Split) : Type 0 where
  pub free : slice_get cube split.position ≡ Some Free
  pub bound : IsBoundBy (strongest strategy) given cube (Some split.bound)
  pub some : 0 < split.bound

-- where the part may be split, the position is free in it, and where it may not, a search would not
-- split it
abbrev pub IsTruePart : Strategy → Setting → Part → Type 0
IsTruePart strategy given part = MatchOption part.split (IsWhole strategy given part.cube) (λ split. slice_get part.cube split.position ≡ Some Free)

-- where the part may be split, the position is free in it
abbrev pub IsSplitFree : Part → Type 0
IsSplitFree part = IfSome part.split (λ split. slice_get part.cube split.position ≡ Some Free)

-- the part may not be split
abbrev pub IsUnsplit : Part → Type 0
IsUnsplit part = part.split ≡ None

-- the bound of where a part may be split, 0 where it may not
abbrev pub bound_of : Option Split → ℕ
bound_of None = 0
bound_of (Some split) = split.bound

abbrev pub cube_of : Part → List Trit
cube_of part = part.cube

abbrev pub cubes_of : List Part → List (List Trit)
cubes_of parts = map cube_of parts
