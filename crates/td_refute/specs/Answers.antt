-- What a search for a refutation answers.
use Rattle.std.specs.Prelude.{map}
use Rattle.td_circuit.specs.Settings.{Setting}
use Rattle.td_domain.specs.Admits.{Admitted}
use Rattle.td_domain.specs.Worst.{IsUpperBound}
use Rattle.td_refutation.specs.Asking.{all_admitted}
use Rattle.td_refutation.specs.Whole.{IsRefuted}
use Rattle.td_refute.specs.declared.refuting.Refuted.{Refuted}
use Rattle.td_refutation.specs.Whole.{step_of}

-- The steps refute the pins with the bound, so no admitted pair has a greater delay.
pub record IsShown (given : Setting) (admit : Admitted) (refuted : Refuted) : Type 0 where
  pub steps : IsRefuted given (all_admitted admit) admit.pins (map step_of refuted.steps.items) refuted.bound
  pub bound : IsUpperBound given admit refuted.bound
