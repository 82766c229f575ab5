-- What was found, one finding after another.
use Rattle.std.proofs.Common.{◌≡◌, ℕ, zero, suc, ◌+◌, ◌*◌, ◌≤◌, List, [], ◌∷◌, ◌++◌, length, map, take, refl, sym, ap, subst, ◌∙◌, arith}
use Rattle.std.specs.Prelude.{slice_get, Some, Option}
use Rattle.std.specs.List.{AllByRecursion}
use Rattle.td_domain.specs.declared.cubes.Trit.{Trit}
use Rattle.td_certificate.specs.Cubes.{cubes_past}
use Rattle.td_certificate.specs.declared.tree.BoundedBy.TheVariants.{Arrival}
use Rattle.td_book.specs.declared.node.Mark.TheVariants as mark
use Rattle.td_book.specs.declared.node.State.{State}
use Rattle.td_book.specs.Board.{position_of}
use Rattle.td_book.specs.Grafting.{cubes_left}
use Rattle.td_search.specs.declared.findings.Finding.{Finding}
use Rattle.td_search.specs.declared.findings.Finding.TheVariants.{Closed, Split}
use Rattle.td_search.specs.Findings.{IsTrueFinding, AreTrueFindings, IsUsable, split_at, state_of, side_bounds}
use Rattle.td_search.specs.Problems.{Problem}

abbrev pub nothing : Finding
nothing = Closed (mark.Bound Arrival) 0

-- ---- bounds for both sides

pub side_long : (findings : List Finding) → length (side_bounds findings) ≤ 2 * length findings
side_long [] = omega arith
side_long (Closed mark bound ∷ findings) = let rest = side_long findings in omega arith
side_long (Split position bound delay ∷ findings) = let rest = side_long findings in omega arith

more_sides : (findings : List Finding) (i : ℕ) (f : Finding) → slice_get findings i ≡ Some f
    → side_bounds (take (suc i) findings) ≡ side_bounds (take i findings) ++ side_bounds (f ∷ [])
more_sides [] i f is = cc
more_sides (g ∷ findings) zero f is =
    let same : g ≡ f = cc in ap (λ (h : Finding). side_bounds (h ∷ [])) same
more_sides (Closed mark bound ∷ findings) (suc i) f is = more_sides findings i f is
more_sides (Split position bound delay ∷ findings) (suc i) f is = ap (λ (l : List ℕ). bound ∷ bound ∷ l) (more_sides findings i f is)

next_is : (i : ℕ) → i + 1 ≡ suc i
next_is i = omega arith

pub side_more : (findings : List Finding) (i : ℕ) (f : Finding) → slice_get findings i ≡ Some f
    → side_bounds (take (i + 1) findings) ≡ side_bounds (take i findings) ++ side_bounds (f ∷ [])
side_more findings i f is = ap (λ (n : ℕ). side_bounds (take n findings)) (next_is i) ∙ more_sides findings i f is

-- ---- the cubes that are left

pub state_splits : (best : ℕ) (f : Finding) → position_of (state_of best f) ≡ split_at f
state_splits best (Closed mark bound) = refl
state_splits best (Split position bound delay) = refl

-- a beginning of what is true is true
pub true_front : (asked : Problem) (cubes : List (List Trit)) (findings : List Finding) (n : ℕ) → AreTrueFindings asked cubes findings → AreTrueFindings asked cubes (take n findings)
true_front asked cubes [] zero h = tt
true_front asked cubes [] (suc n) h = tt
true_front asked [] (f ∷ findings) n h = absurd h
true_front asked (cube ∷ cubes) (f ∷ findings) zero h = tt
true_front asked (cube ∷ cubes) (f ∷ findings) (suc n) h = (h.0, true_front asked (cubes_past cube (split_at f) cubes) findings n h.1)

-- the finding is true of the cube that comes next
pub record IsNext (asked : Problem) (cubes : List (List Trit)) (f : Finding) : Type 0 where
  pub cube : List Trit
  pub rest : List (List Trit)
  pub is : cubes ≡ cube ∷ rest
  pub holds : IsTrueFinding asked cube f

pub next_of : (asked : Problem) (best : ℕ) (cubes : List (List Trit)) (findings : List Finding) (i : ℕ) (f : Finding) → AreTrueFindings asked cubes findings
    → slice_get findings i ≡ Some f → IsNext asked (cubes_left (map (state_of best) (take i findings)) cubes) f
next_of asked best cubes [] i f h is = cc
next_of asked best [] (g ∷ findings) i f h is = absurd h
next_of asked best (cube ∷ cubes) (g ∷ findings) zero f h is =
    let same : g ≡ f = cc in record { cube = cube; rest = cubes; is = refl; holds = subst (IsTrueFinding asked cube) same h.0 }
next_of asked best (cube ∷ cubes) (g ∷ findings) (suc i) f h is =
    subst (λ (position : Option ℕ). IsNext asked (cubes_left (map (state_of best) (take i findings)) (cubes_past cube position cubes)) f) (sym (state_splits best g))
    (next_of asked best (cubes_past cube (split_at g) cubes) findings i f h.1 is)

-- one more
more_states : (best : ℕ) (findings : List Finding) (i : ℕ) (f : Finding) → slice_get findings i ≡ Some f
    → map (state_of best) (take (suc i) findings) ≡ map (state_of best) (take i findings) ++ state_of best f ∷ []
more_states best [] i f is = cc
more_states best (g ∷ findings) zero f is = let same : g ≡ f = cc in ap (λ (h : Finding). state_of best h ∷ []) same
more_states best (g ∷ findings) (suc i) f is = ap (λ (l : List State). state_of best g ∷ l) (more_states best findings i f is)

pub states_more : (best : ℕ) (findings : List Finding) (i : ℕ) (f : Finding) → slice_get findings i ≡ Some f
    → map (state_of best) (take (i + 1) findings) ≡ map (state_of best) (take i findings) ++ state_of best f ∷ []
states_more best findings i f is = ap (λ (n : ℕ). map (state_of best) (take n findings)) (next_is i) ∙ more_states best findings i f is

more_usable : (best : ℕ) (findings : List Finding) (i : ℕ) (f : Finding) → slice_get findings i ≡ Some f → AllByRecursion (IsUsable best) (take i findings) → IsUsable best f
    → AllByRecursion (IsUsable best) (take (suc i) findings)
more_usable best [] i f is h u = cc
more_usable best (g ∷ findings) zero f is h u = let same : g ≡ f = cc in (subst (IsUsable best) (sym same) u, tt)
more_usable best (g ∷ findings) (suc i) f is h u = (h.0, more_usable best findings i f is h.1 u)

pub usable_more : (best : ℕ) (findings : List Finding) (i : ℕ) (f : Finding) → slice_get findings i ≡ Some f → AllByRecursion (IsUsable best) (take i findings) → IsUsable best f
    → AllByRecursion (IsUsable best) (take (i + 1) findings)
usable_more best findings i f is h u =
    subst (λ (n : ℕ). AllByRecursion (IsUsable best) (take n findings)) (sym (next_is i)) (more_usable best findings i f is h u)

-- each of the first n is usable
pub usable_at : (best : ℕ) (findings : List Finding) (i n : ℕ) (f : Finding) → slice_get findings i ≡ Some f → i + 1 ≤ n → AllByRecursion (IsUsable best) (take n findings) → IsUsable best f
usable_at best [] i n f is low h = cc
usable_at best (g ∷ findings) i zero f is low h = absurd (omega (arith, low))
usable_at best (g ∷ findings) zero (suc n) f is low h = let same : g ≡ f = cc in subst (IsUsable best) same h.0
usable_at best (g ∷ findings) (suc i) (suc n) f is low h = usable_at best findings i n f is (omega (arith, low)) h.1
