-- A part that is halved takes from the nodes that the trees of all parts may have.
use Rattle.std.proofs.Common.{◌≡◌, ◌<◌, ◌+◌, ℕ, zero, suc, List, [], ◌∷◌, ◌++◌, set, Some, arith}
use Rattle.std.specs.Prelude.{slice_get}
use Rattle.std.proofs.lemmas.Option.{none-some}
use Rattle.td_domain.specs.declared.cubes.Trit.{Trit}
use Rattle.td_domain.specs.declared.cubes.Trit.TheVariants.{Zero, One, Free}
use Rattle.td_join.specs.Stacks.{most_nodes}
use Rattle.td_join.proofs.Weights.{Known, zero_is, one_is, halved_nodes}
use Rattle.td_parts.specs.Sharing.{weight}
use Rattle.td_parts.proofs.Shares.{Cubes}

same_cubes : (this that : List Trit) → Some this ≡ Some that → this ≡ that
same_cubes this that e = cc

set_weight : (cubes : Cubes) (n : ℕ) (cube half : List Trit) → slice_get cubes n ≡ Some cube
    → weight (set cubes n half) + most_nodes cube ≡ weight cubes + most_nodes half
set_weight [] n cube half at = absurd (none-some cube at)
set_weight (x ∷ cubes) zero cube half at = rw (same_cubes x cube at) (omega arith)
set_weight (x ∷ cubes) (suc n) cube half at = omega (arith, set_weight cubes n cube half at)

snoc_weight : (cubes : Cubes) (half : List Trit) → weight (cubes ++ half ∷ []) ≡ weight cubes + most_nodes half
snoc_weight [] half = omega arith
snoc_weight (x ∷ cubes) half = omega (arith, snoc_weight cubes half)

module _ (cubes : Cubes) (n : ℕ) (cube : List Trit) (position : ℕ) (at : slice_get cubes n ≡ Some cube) (free : slice_get cube position ≡ Some Free) where
  pub one_less : (t : Trit) → Known t → weight (set cubes n (set cube position t)) < weight cubes
  one_less t known = omega (arith, set_weight cubes n cube (set cube position t) at, halved_nodes t known cube position free)

  pub both_less : weight (set cubes n (set cube position Zero) ++ set cube position One ∷ []) < weight cubes
  both_less = omega (
    arith,
    set_weight cubes n cube (set cube position Zero) at,
    snoc_weight (set cubes n (set cube position Zero)) (set cube position One),
    halved_nodes Zero zero_is cube position free,
    halved_nodes One one_is cube position free,
  )
