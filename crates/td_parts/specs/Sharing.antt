-- Internal: parts that share out the admitted pairs.
use Rattle.std.specs.Prelude.{◌≡◌, ℕ, ◌+◌, List, [], ◌∷◌, All, length, slice_get, Some}
use Rattle.td_circuit.specs.Settings.{Setting}
use Rattle.td_domain.specs.declared.cubes.Trit.{Trit}
use Rattle.td_domain.specs.declared.cubes.Trit.TheVariants.{Free}
use Rattle.td_domain.specs.Admits.{Admitted, HasAdmitted}
use Rattle.td_search.specs.declared.strategy.Strategy.{Strategy}
use Rattle.td_search.specs.Problems.{IsPart}
use Rattle.td_join.specs.Partition.{IsPartition}
use Rattle.td_join.specs.Stacks.{most_nodes}
use Rattle.td_parts.specs.declared.cutting.Cutting.{Cutting}
use Rattle.td_parts.specs.Queues.{AreBelow}
use Rattle.td_parts.specs.Splits.{IsTruePart, cubes_of}

-- a part of the pins with an admitted pair
pub record IsShare (admit : Admitted) (cube : List Trit) : Type 0 where
  pub some : HasAdmitted admit cube
  pub inside : IsPart cube admit.pins
  pub fits : length cube ≡ length admit.pins

-- each admitted pair lies in one of the cubes, and each cube has one
pub record AreShares (admit : Admitted) (cubes : List (List Trit)) : Type 0 where
  pub partition : IsPartition admit cubes
  pub shares : All (IsShare admit) cubes

-- the position is free in the cube of this place
abbrev pub IsFreeIn : List (List Trit) → ℕ → ℕ → Type 0
IsFreeIn cubes place position = (cube : List Trit) → slice_get cubes place ≡ Some cube → slice_get cube position ≡ Some Free

-- the parts share out the pairs, may be split where they say and nowhere else, and the queue has
-- places of parts alone
pub record IsCutting (strategy : Strategy) (given : Setting) (admit : Admitted) (cutting : Cutting) : Type 0 where
  pub shares : AreShares admit (cubes_of cutting.parts.items)
  pub splits : All (IsTruePart strategy given) cutting.parts.items
  pub queued : AreBelow (length cutting.parts.items) cutting.queue

-- how many nodes the trees of some cubes have at most
abbrev pub weight : List (List Trit) → ℕ
weight [] = 0
weight (cube ∷ cubes) = most_nodes cube + weight cubes
