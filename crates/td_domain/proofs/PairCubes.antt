-- The cube in which a pair lies alone.
use Rattle.std.proofs.Common.{◌≡◌, ◌*◌, Bool, true, false, List, [], ◌∷◌, length, refl, ap, subst, ◌∙◌, arith}
use Rattle.td_domain.specs.Pairs.{Pair}
use Rattle.td_domain.specs.Cubes.{Allows, AllowsBits}
use Rattle.td_domain.specs.Admits.{Admitted, IsAdmitted, HasAdmitted}
use Rattle.td_domain.specs.Sheets.{known}
use Rattle.td_domain.specs.PairCubes.{cube_of}

pub long_cube : (before after : List Bool) → length before ≡ length after → length (cube_of before after) ≡ 2 * length before
long_cube [] [] e = refl
long_cube [] (b ∷ after) e = absurd (omega arith)
long_cube (a ∷ before) [] e = absurd (omega arith)
long_cube (a ∷ before) (b ∷ after) e = let rest = long_cube before after (omega arith) in omega arith

allows_own : (bit : Bool) → Allows (known bit) bit
allows_own true = tt
allows_own false = tt

own_only : (bit other : Bool) → Allows (known bit) other → other ≡ bit
own_only true true h = refl
own_only true false h = absurd h
own_only false true h = absurd h
own_only false false h = refl

inside : (before after : List Bool) → length before ≡ length after → AllowsBits (cube_of before after) before after
inside [] [] e = tt
inside [] (b ∷ after) e = absurd (omega arith)
inside (a ∷ before) [] e = absurd (omega arith)
inside (a ∷ before) (b ∷ after) e = (allows_own a, allows_own b, inside before after (omega arith))

only : (before after others laters : List Bool) → length before ≡ length after → AllowsBits (cube_of before after) others laters
    → (others ≡ before) × (laters ≡ after)
only [] [] [] [] e h = (refl, refl)
only [] [] [] (y ∷ laters) e h = absurd h
only [] [] (x ∷ others) laters e h = absurd h
only [] (b ∷ after) others laters e h = absurd (omega arith)
only (a ∷ before) [] others laters e h = absurd (omega arith)
only (a ∷ before) (b ∷ after) [] laters e h = absurd h
only (a ∷ before) (b ∷ after) (x ∷ others) [] e h = absurd h
only (a ∷ before) (b ∷ after) (x ∷ others) (y ∷ laters) e h =
    let rest = only before after others laters (omega arith) h.2 in (
      ap (λ z. z ∷ others) (own_only a x h.0) ∙ ap (λ zs. a ∷ zs) rest.0,
      ap (λ z. z ∷ laters) (own_only b y h.1) ∙ ap (λ zs. b ∷ zs) rest.1,
    )

pair_is : (pair other : Pair) → other.first ≡ pair.first → other.second ≡ pair.second → other ≡ pair
pair_is pair other e f = λ z. record { first = e z; second = f z }

-- an admitted pair lies in the cube just where the pair is admitted
pub alone : (admit : Admitted) (pair : Pair) → length pair.first ≡ length pair.second
    → (HasAdmitted admit (cube_of pair.first pair.second) → IsAdmitted admit pair)
    × (IsAdmitted admit pair → HasAdmitted admit (cube_of pair.first pair.second))
alone admit pair e = (
  λ has.
      let same = only pair.first pair.second has.0.first has.0.second e has.2 in
      subst (IsAdmitted admit) (pair_is pair has.0 same.0 same.1) has.1,
  λ is. (pair, is, inside pair.first pair.second e),
)
