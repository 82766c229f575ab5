-- What is known of the pairs that keep conditions.
use Rattle.std.proofs.Common.{ℕ, ◌<◌, ◌≤◌, ◌^◌, min, arith}
use Rattle.std.specs.Prelude.{Option, Some, None, IfSome}
use Rattle.td_circuit.specs.Settings.{Setting}
use Rattle.td_lead.specs.declared.timed.Timed.{Timed}
use Rattle.td_refutation.specs.Asking.{Asking}
use Rattle.td_refute.specs.Kept.{IsTimedAmong, IsBoundAmong}
use Rattle.td_worst.specs.Kept.{IsWorstAmong, LiesBetweenAmong}

module _ (given : Setting) (asking : Asking) where
  -- no pair is later than the lesser of two bounds
  pub lesser : (one other : ℕ) → IsBoundAmong given asking one → IsBoundAmong given asking other → IsBoundAmong given asking (min one other)
  lesser one other is also = λ pair delay asked has. (let low = is pair delay asked has in let same = also pair delay asked has in omega arith)

  -- the best pair lies below a bound
  pub between : (best : Timed) (high : ℕ) → IsTimedAmong given asking best → IsBoundAmong given asking high → LiesBetweenAmong given asking best high
  between best high timed is = record { timed = timed; greatest = is; ordered = is best.pair best.time timed.asked timed.delay }

  -- where a bound isn't above the best pair, that is the latest
  pub worst : (best : Timed) (bound : ℕ) → IsTimedAmong given asking best → IsBoundAmong given asking bound → bound ≤ best.time → IsWorstAmong given asking best
  worst best bound timed is le =
      record { timed = timed; greatest = λ pair delay asked has. (let low = is pair delay asked has in omega (arith, le)) }

  -- its time is small
  pub small : (best : Timed) (high : ℕ) → IsTimedAmong given asking best → IsBoundAmong given asking high → high < 10 ^ 15 → best.time < 10 ^ 15
  small best high timed is few = let low = is best.pair best.time timed.asked timed.delay in omega (arith, few)

  -- as small is the best pair's, if there is one
  pub small_best : (best : Option Timed) (high : ℕ) → IfSome best (IsTimedAmong given asking) → IsBoundAmong given asking high → high < 10 ^ 15
      → IfSome best (λ (one : Timed). one.time < 10 ^ 15)
  small_best None high timed is few = tt
  small_best (Some best) high timed is few = small best high timed is few
