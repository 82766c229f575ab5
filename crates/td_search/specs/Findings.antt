-- What workers found of cubes.
use Rattle.std.specs.Prelude.{◌≡◌, ℕ, ◌<◌, ◌≤◌, ◌^◌, List, [], ◌∷◌, Option, Some, None, slice_get}
use Rattle.std.specs.List.{All}
use Rattle.td_domain.specs.declared.cubes.Trit.{Trit}
use Rattle.td_domain.specs.declared.cubes.Trit.TheVariants.{Free}
use Rattle.td_certificate.specs.Cubes.{cubes_past}
use Rattle.td_book.specs.declared.node.State.{State}
use Rattle.td_book.specs.declared.node.State.TheVariants as state
use Rattle.td_search.specs.declared.findings.Evidence.{Evidence}
use Rattle.td_search.specs.declared.findings.Finding.{Finding}
use Rattle.td_search.specs.declared.findings.Finding.TheVariants.{Closed, Split}
use Rattle.td_search.specs.declared.findings.Trail.{Trail}
use Rattle.td_search.specs.Deciding.{IsMarked}
use Rattle.td_search.specs.Problems.{Problem, has_bound, IsAbove}
use Rattle.td_search.specs.Splitting.{splits_above}

-- What was found is true of a cube: a bound is its mark's, and at least each delay of the cube's
-- pairs. A cube that was split has the strongest domain's bound, and may be split above a delay
-- that is less.
abbrev pub IsTrueFinding : Problem → List Trit → Finding → Type 0
IsTrueFinding asked cube (Closed mark bound) = IsMarked asked cube mark bound × IsAbove asked cube bound
IsTrueFinding asked cube (Split position bound delay) =
    (slice_get cube position ≡ Some Free) × has_bound asked cube bound × (bound < 10 ^ 15)
    × splits_above asked cube delay × (delay < bound)

-- the position at which a cube was split, if it was
abbrev pub split_at : Finding → Option ℕ
split_at (Closed mark bound) = None
split_at (Split position bound delay) = Some position

-- Each finding is true of the cube that comes next, where the trees still to come have these cubes.
abbrev pub AreTrueFindings : Problem → List (List Trit) → List Finding → Type 0
AreTrueFindings asked cubes [] = Unit {0}
AreTrueFindings asked [] (finding ∷ findings) = ⊥
AreTrueFindings asked (cube ∷ cubes) (finding ∷ findings) = IsTrueFinding asked cube finding × AreTrueFindings asked (cubes_past cube (split_at finding) cubes) findings

-- what was found is true of the cube and of what its splits made of it
abbrev pub IsTrueEvidence : Problem → Evidence → Type 0
IsTrueEvidence asked evidence = AreTrueFindings asked (evidence.cube ∷ []) evidence.findings.items

abbrev pub IsTrueTrail : Problem → Trail → Type 0
IsTrueTrail asked trail = All (IsTrueEvidence asked) trail.evidence.items

-- it shows what was done also where this is the best time: a bound is at most the best, and a delay
-- above which a cube was split too
abbrev pub IsUsable : ℕ → Finding → Type 0
IsUsable best (Closed mark bound) = bound ≤ best
IsUsable best (Split position bound delay) = delay ≤ best

-- the state of a node that is closed under this best time, or split
abbrev pub state_of : ℕ → Finding → State
state_of best (Closed mark bound) = state.Closed mark bound best
state_of best (Split position bound delay) = state.Split position

-- the bounds of the cubes that were split, each for both sides
abbrev pub side_bounds : List Finding → List ℕ
side_bounds [] = []
side_bounds (Closed mark bound ∷ findings) = side_bounds findings
side_bounds (Split position bound delay ∷ findings) = bound ∷ bound ∷ side_bounds findings
