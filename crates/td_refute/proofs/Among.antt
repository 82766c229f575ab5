-- What a bound says that is shown of the pins, of pairs that keep conditions.
use Rattle.std.proofs.Common.{ℕ}
use Rattle.td_circuit.specs.Settings.{Setting}
use Rattle.td_refutation.specs.Asking.{Asking}
use Rattle.td_refutation.specs.Refuting.{IsUpperBoundOf}
use Rattle.td_refute.specs.Kept.{IsBoundAmong}

-- each pair that is asked about is in the pins
pub bound_among : (given : Setting) (asking : Asking) (bound : ℕ) → IsUpperBoundOf given asking asking.admit.pins bound → IsBoundAmong given asking bound
bound_among given asking bound is pair delay asked is_delay = is pair delay asked asked.admitted.pinned is_delay
