-- Some of the admitted pairs.
use Rattle.std.specs.Prelude.{◌≡◌}
use Rattle.td_domain.specs.Pairs.{Pair}
use Rattle.td_domain.specs.Admits.{Admitted, IsAdmitted, HasAdmitted}

-- some of the pairs that are admitted, at least one, in the same pins
pub record AreAmong (admit some : Admitted) : Type 0 where
  pub pins : some.pins ≡ admit.pins
  pub held : some.held ≡ admit.held
  pub admitted : (pair : Pair) → IsAdmitted some pair → IsAdmitted admit pair
  pub any : HasAdmitted some some.pins
