-- A private tree that grows with what is found of its nodes.
use Rattle.std.proofs.Common.{◌≡◌, ℕ, Option, List, [], ◌∷◌, ◌++◌, map, sym, ap, subst, ◌∙◌}
use Rattle.std.specs.List.{AllByRecursion}
use Rattle.std.proofs.lemmas.List.{length-set}
use Rattle.td_domain.specs.declared.cubes.Trit.{Trit}
use Rattle.td_domain.specs.declared.cubes.Trit.TheVariants.{Zero, One}
use Rattle.td_certificate.specs.Cubes.{cubes_past}
use Rattle.td_book.specs.declared.node.State.{State}
use Rattle.td_book.specs.Board.{position_of}
use Rattle.td_book.specs.Grafting.{cubes_left}
use Rattle.td_search.specs.declared.findings.Finding.{Finding}
use Rattle.td_search.specs.declared.findings.Finding.TheVariants.{Closed, Split}
use Rattle.td_search.specs.Findings.{IsTrueFinding, AreTrueFindings, split_at}
use Rattle.td_search.specs.Problems.{Problem}
use Rattle.td_search.specs.Below.{IsWithin}
use Rattle.td_search.proofs.Going.{side_inside}

first_is : {X : Type 0} (x y : X) (xs ys : List X) → x ∷ xs ≡ y ∷ ys → x ≡ y
first_is x y xs ys e = cc

rest_is : {X : Type 0} (x y : X) (xs ys : List X) → x ∷ xs ≡ y ∷ ys → xs ≡ ys
rest_is x y xs ys e = cc

-- one more finding is true
pub true_more : (asked : Problem) (states : List State) (findings : List Finding) (cubes : List (List Trit)) (cube : List Trit) (rest : List (List Trit)) (f : Finding)
    → map position_of states ≡ map split_at findings → AreTrueFindings asked cubes findings → cubes_left states cubes ≡ cube ∷ rest → IsTrueFinding asked cube f
    → AreTrueFindings asked cubes (findings ++ f ∷ [])
true_more asked [] [] cubes cube rest f e h is of = subst (λ (l : List (List Trit)). AreTrueFindings asked l (f ∷ [])) (sym is) (of, tt)
true_more asked [] (g ∷ findings) cubes cube rest f e h is of = cc
true_more asked (s ∷ states) [] cubes cube rest f e h is of = cc
true_more asked (s ∷ states) (g ∷ findings) [] cube rest f e h is of = absurd h
true_more asked (s ∷ states) (g ∷ findings) (top ∷ cubes) cube rest f e h is of = (
  h.0,
  true_more asked states findings (cubes_past top (split_at g) cubes) cube rest f (rest_is _ _ _ _ e) h.1
      (subst (λ (position : Option ℕ). cubes_left states (cubes_past top position cubes) ≡ cube ∷ rest) (first_is _ _ _ _ e) is) of,
)

-- what is left after one more
pub left_more : (states : List State) (s : State) (cubes : List (List Trit)) (cube : List Trit) (rest : List (List Trit)) → cubes_left states cubes ≡ cube ∷ rest
    → cubes_left (states ++ s ∷ []) cubes ≡ cubes_past cube (position_of s) rest
left_more [] s cubes cube rest is = ap (λ (l : List (List Trit)). cubes_left (s ∷ []) l) is
left_more (x ∷ states) s [] cube rest is = cc
left_more (x ∷ states) s (top ∷ cubes) cube rest is = left_more states s (cubes_past top (position_of x) cubes) cube rest is

-- the sides of a cube within the pins are within them
pub within_past : (asked : Problem) (cube : List Trit) (rest : List (List Trit)) (f : Finding) → IsTrueFinding asked cube f → AllByRecursion (IsWithin asked) (cube ∷ rest)
    → AllByRecursion (IsWithin asked) (cubes_past cube (split_at f) rest)
within_past asked cube rest (Closed mark bound) of h = h.1
within_past asked cube rest (Split position bound delay) of h = (
  (length-set cube position Zero ∙ h.0.0, λ pair is_in. h.0.1 pair (side_inside Zero cube position pair.first pair.second of.0 is_in)),
  (
    (length-set cube position One ∙ h.0.0, λ pair is_in. h.0.1 pair (side_inside One cube position pair.first pair.second of.0 is_in)),
    h.1,
  ),
)
