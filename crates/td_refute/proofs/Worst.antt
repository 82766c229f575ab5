-- What a bound says that is shown of the pins.
use Rattle.std.proofs.Common.{ℕ, ◌≤◌, arith}
use Rattle.td_circuit.specs.Settings.{Setting}
use Rattle.td_domain.specs.Admits.{Admitted}
use Rattle.td_domain.specs.Worst.{IsUpperBound, IsWorst}
use Rattle.td_lead.specs.declared.timed.Timed.{Timed}
use Rattle.td_lead.specs.Timed.{IsTimed}
use Rattle.td_refutation.specs.Asking.{all_admitted}
use Rattle.td_refutation.specs.Refuting.{IsUpperBoundOf}
use Rattle.td_refutation.proofs.Asking.{nothing_kept}

-- each admitted pair is in the pins
pub bounded : (given : Setting) (admit : Admitted) (bound : ℕ) → IsUpperBoundOf given (all_admitted admit) admit.pins bound → IsUpperBound given admit bound
bounded given admit bound is pair delay admitted is_delay =
    is pair delay (record { admitted = admitted; kept = nothing_kept given.netlist pair }) admitted.pinned is_delay

-- where it is the delay of an admitted pair, that is the worst one
pub worst_is : (given : Setting) (admit : Admitted) (best : Timed) (bound : ℕ) → IsTimed given admit best → IsUpperBound given admit bound → bound ≤ best.time
    → IsWorst given admit best.time
worst_is given admit best bound timed greatest within = record {
  pair = best.pair;
  admitted = timed.admitted;
  reached = timed.delay;
  greatest = λ pair delay admitted is_delay. omega (arith, greatest pair delay admitted is_delay, within);
}
