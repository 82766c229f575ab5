-- What a search for pairs that keep conditions answers.
use Rattle.std.specs.Prelude.{ℕ, ◌≤◌, List, map}
use Rattle.td_circuit.specs.Settings.{Setting}
use Rattle.td_circuit.specs.Run.{IsDelayOfBits}
use Rattle.td_domain.specs.Pairs.{Pair}
use Rattle.td_lead.specs.declared.timed.Timed.{Timed}
use Rattle.td_refutation.specs.Asking.{Asking, IsAskedAbout}
use Rattle.td_refutation.specs.declared.whole.Step as code
use Rattle.td_refutation.specs.Whole.{IsRefuted, step_of}
use Rattle.td_refutation.specs.Emptied.{IsEmptied}
use Rattle.td_refute.specs.declared.refuting.Refuted.{Refuted}
use Rattle.td_refute.specs.declared.keeping.Evidence.{Evidence}
use Rattle.td_refute.specs.declared.keeping.Evidence.TheVariants as evidence

-- the pair is one of those asked about, and the time is its delay
pub record IsTimedAmong (given : Setting) (asking : Asking) (timed : Timed) : Type 0 where
  pub asked : IsAskedAbout given.netlist asking timed.pair
  pub delay : IsDelayOfBits given timed.pair.first timed.pair.second timed.time

-- no pair that is asked about has a greater delay
abbrev pub IsBoundAmong : Setting → Asking → ℕ → Type 0
IsBoundAmong given asking bound = (pair : Pair) (delay : ℕ) → IsAskedAbout given.netlist asking pair
    → IsDelayOfBits given pair.first pair.second delay → delay ≤ bound

-- no pair is asked about
abbrev pub AsksNone : Setting → Asking → Type 0
AsksNone given asking = (pair : Pair) → IsAskedAbout given.netlist asking pair → ⊥

-- the steps refute the pins with the bound, so no pair that is asked about has a greater delay
pub record IsShownAmong (given : Setting) (asking : Asking) (refuted : Refuted) : Type 0 where
  pub steps : IsRefuted given asking asking.admit.pins (map step_of refuted.steps.items) refuted.bound
  pub bound : IsBoundAmong given asking refuted.bound

-- after the steps the last clause is empty, so no pair is asked about
pub record AreEmpty (given : Setting) (asking : Asking) (steps : List code.Step) : Type 0 where
  pub steps_end : IsEmptied given asking asking.admit.pins (map step_of steps)
  pub none : AsksNone given asking

-- what evidence says is true
abbrev pub IsEvidence : Setting → Asking → Evidence → Type 0
IsEvidence given asking evidence.Nothing = Unit {0}
IsEvidence given asking (evidence.Bound refuted) = IsShownAmong given asking refuted
IsEvidence given asking (evidence.NoPair steps) = AreEmpty given asking steps.items
