-- Pairs with their delays.
use Rattle.td_circuit.specs.Settings.{Setting}
use Rattle.td_circuit.specs.Run.{IsDelayOfBits}
use Rattle.td_domain.specs.Admits.{Admitted, IsAdmitted}
use Rattle.td_lead.specs.declared.timed.Timed.{Timed}

-- the pair is admitted, and the time is its delay
pub record IsTimed (given : Setting) (admit : Admitted) (timed : Timed) : Type 0 where
  pub admitted : IsAdmitted admit timed.pair
  pub delay : IsDelayOfBits given timed.pair.first timed.pair.second timed.time
