-- A joining ends: each step takes nodes away from what the groups may still have.
use Rattle.std.proofs.Common.{◌≡◌, ◌<◌, ◌+◌, ◌*◌, ℕ, zero, suc, List, [], ◌∷◌, ◌++◌, set, Some, refl, ap, arith}
use Rattle.std.specs.Prelude.{slice_get}
use Rattle.td_domain.specs.declared.cubes.Trit.{Trit}
use Rattle.td_domain.specs.declared.cubes.Trit.TheVariants.{Zero, One, Free}
use Rattle.td_join.specs.declared.parts.Group.{Group}
use Rattle.td_join.specs.Stacks.{most_nodes, weights}
use Rattle.td_join.proofs.Cubing.{same_trits}

pub some_nodes : (cube : List Trit) → 0 < most_nodes cube
some_nodes [] = omega arith
some_nodes (Free ∷ cube) = omega (arith, some_nodes cube)
some_nodes (Zero ∷ cube) = some_nodes cube
some_nodes (One ∷ cube) = some_nodes cube

weights_snoc : (groups : List Group) (g : Group) → weights (groups ++ g ∷ []) ≡ weights groups + most_nodes g.cube
weights_snoc [] g = omega arith
weights_snoc (h ∷ groups) g = omega (arith, weights_snoc groups g)

-- of a known bit
pub data Known : Trit → Type 0 where
  zero_is : Known Zero
  one_is : Known One

of_known : (t : Trit) (cube : List Trit) → Known t → most_nodes (t ∷ cube) ≡ most_nodes cube
of_known _ cube zero_is = refl
of_known _ cube one_is = refl

pub halved_nodes : (t : Trit) → Known t → (cube : List Trit) (position : ℕ) → slice_get cube position ≡ Some Free
    → 2 * most_nodes (set cube position t) < most_nodes cube
halved_nodes t known [] position is = absurd cc
halved_nodes t known (Free ∷ cube) zero is = omega (arith, of_known t cube known)
halved_nodes t known (Zero ∷ cube) zero is = let e = same_trits Zero Free is in absurd cc
halved_nodes t known (One ∷ cube) zero is = let e = same_trits One Free is in absurd cc
halved_nodes t known (Free ∷ cube) (suc position) is = omega (arith, halved_nodes t known cube position is)
halved_nodes t known (Zero ∷ cube) (suc position) is = halved_nodes t known cube position is
halved_nodes t known (One ∷ cube) (suc position) is = halved_nodes t known cube position is

pub leaf_smaller : (groups rest : List Group) (top : Group) → groups ≡ rest ++ top ∷ [] → weights rest < weights groups
leaf_smaller groups rest top e = omega (arith, ap weights e, weights_snoc rest top, some_nodes top.cube)

pub halves_smaller : (groups rest more most : List Group) (top low high : Group) (position : ℕ) → groups ≡ rest ++ top ∷ []
    → more ≡ rest ++ high ∷ [] → most ≡ more ++ low ∷ [] → slice_get top.cube position ≡ Some Free
    → low.cube ≡ set top.cube position Zero → high.cube ≡ set top.cube position One → weights most < weights groups
halves_smaller groups rest more most top low high position e f g free low_cube high_cube =
    omega (
      arith,
      ap weights e,
      weights_snoc rest top,
      ap weights f,
      weights_snoc rest high,
      ap weights g,
      weights_snoc more low,
      halved_nodes Zero zero_is top.cube position free,
      halved_nodes One one_is top.cube position free,
      ap most_nodes low_cube,
      ap most_nodes high_cube,
    )
