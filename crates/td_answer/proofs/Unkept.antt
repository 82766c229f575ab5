-- Pairs that keep no condition are the admitted ones.
use Rattle.std.proofs.Common.{◌≡◌, List, [], sym, subst}
use Rattle.std.specs.Prelude.{Option, Some, None, IfSome}
use Rattle.td_circuit.specs.Settings.{Setting}
use Rattle.td_domain.specs.Admits.{Admitted}
use Rattle.td_lead.specs.declared.timed.Timed.{Timed}
use Rattle.td_refutation.specs.declared.conditions.NamedCondition.{NamedCondition}
use Rattle.td_refutation.specs.Asking.{Asking}
use Rattle.td_refutation.proofs.Asking.{nothing_kept}
use Rattle.td_refute.specs.declared.refuting.Refuted.{Refuted}
use Rattle.td_refute.specs.Answers.{IsShown}
use Rattle.td_refute.specs.Kept.{IsTimedAmong, IsShownAmong}
use Rattle.td_search.specs.declared.strategy.Strategy.{Strategy}
use Rattle.td_search.specs.Problems.{has_delay}
use Rattle.td_worst.specs.Kept.{asking_by}
use Rattle.td_worst.specs.declared.support.Support.{Support}
use Rattle.td_worst.specs.Supports.{IsSupport, IsSupportAmong}

module _ (given : Setting) (admit : Admitted) (keep : List NamedCondition) (bare : keep ≡ []) where
  timed_none : (strategy : Strategy) (best : Timed) → has_delay (record { setting = given; admit = admit; strategy = strategy }) best.pair best.time
      → IsTimedAmong given (asking_by admit []) best
  timed_none strategy best has = record { asked = record { admitted = has.0; kept = nothing_kept given.netlist best.pair }; delay = has.1 }

  pub timed_among : (strategy : Strategy) (best : Timed) → has_delay (record { setting = given; admit = admit; strategy = strategy }) best.pair best.time
      → IsTimedAmong given (asking_by admit keep) best
  timed_among strategy best has = subst (λ (k : List NamedCondition). IsTimedAmong given (asking_by admit k) best) (sym bare) (timed_none strategy best has)

  shown_none : (refuted : Refuted) → IsShown given admit refuted → IsShownAmong given (asking_by admit []) refuted
  shown_none refuted is = record { steps = is.steps; bound = λ pair delay asked has. is.bound pair delay asked.admitted has }

  shown_among : (found : Option Refuted) → IfSome found (IsShown given admit) → IfSome found (IsShownAmong given (asking_by admit keep))
  shown_among None is = tt
  shown_among (Some refuted) is = subst (λ (k : List NamedCondition). IsShownAmong given (asking_by admit k) refuted) (sym bare) (shown_none refuted is)

  pub support_among : (support : Support) → IsSupport given admit support → IsSupportAmong given (asking_by admit keep) support
  support_among support is = record { steps = shown_among support.steps is.steps; tree = is.tree }
