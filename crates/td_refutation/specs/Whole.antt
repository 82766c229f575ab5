-- Whole refutations: what lines come to, one after another.
use Rattle.std.specs.Prelude.{◌≡◌, ℕ, ◌*◌, ◌<◌, ◌≤◌, List, length, take, slice_get, Some, Result, Ok, Err}
use Rattle.td_circuit.specs.Settings.{Setting, AreMoments}
use Rattle.td_circuit.specs.Numbering.{Numbered, setting, IsNumbering}
use Rattle.td_domain.specs.declared.cubes.Trit.{Trit}
use Rattle.td_spans.specs.Conditions.{Asked}
use Rattle.td_spans.specs.Lowering.{latest_of}
use Rattle.td_refutation.specs.declared.flaw.Flaw.{Flaw}
use Rattle.td_refutation.specs.declared.whole.Step as code
use Rattle.td_refutation.specs.declared.whole.Refusal as refusal
use Rattle.td_refutation.specs.declared.whole.Refusal.TheVariants as refused
use Rattle.td_refutation.specs.Doing.{State, IsGood, flaw_of, AreGood, state_to, first_state}
use Rattle.td_refutation.specs.Asking.{Asking, asked_in}
use Rattle.td_refutation.specs.Refuting.{IsUpperBoundOf}
use Rattle.td_refutation.specs.Lines.{deed_of}
pub use Rattle.td_refutation.specs.Lines.{Step}

-- a line, as code keeps it
abbrev pub step_of : code.Step → Step
step_of step = record { kind = step.kind; numbers = step.numbers.items }

-- the lines are good, one after another, from the first state on
abbrev pub AreAllGood : Numbered → Asked → List Trit → List Step → Type 0
AreAllGood circuit asked cube steps = AreGood circuit asked cube (first_state circuit asked cube) steps

-- the state after these lines, which are good
abbrev pub last_state : Numbered → Asked → List Trit → List Step → State
last_state circuit asked cube steps = state_to circuit (first_state circuit asked cube) steps

-- the latest moment at which an output may change after these lines
abbrev pub latest_after : Numbered → Asked → List Trit → List Step → ℕ
latest_after circuit asked cube steps = latest_of (last_state circuit asked cube steps).times circuit.outputs

-- the circuit is that of the setting, its nets in some order
pub record IsOfSetting (given : Setting) (circuit : Numbered) : Type 0 where
  pub numbering : IsNumbering circuit
  pub is : setting circuit ≡ given

-- the lines are good, and after them no output may change later than the bound
pub record IsRefuted (given : Setting) (asking : Asking) (cube : List Trit) (steps : List Step) (bound : ℕ) : Type 0 where
  pub circuit : Numbered
  pub of_setting : IsOfSetting given circuit
  pub good : AreAllGood circuit (asked_in circuit asking) cube steps
  pub within : latest_after circuit (asked_in circuit asking) cube steps ≤ bound

-- the line at this place isn't good after those before it, which are, for this reason
pub record IsFirstBad (circuit : Numbered) (asked : Asked) (cube : List Trit) (steps : List Step) (place : ℕ) (flaw : Flaw) : Type 0 where
  pub step : Step
  pub stands : slice_get steps place ≡ Some step
  pub good : AreAllGood circuit asked cube (take place steps)
  pub bad : IsGood circuit asked cube (last_state circuit asked cube (take place steps)) (deed_of circuit step.kind step.numbers) → ⊥
  pub why : flaw ≡ flaw_of (deed_of circuit step.kind step.numbers)

-- the line at this place is the first that isn't good, for this reason
pub record IsBadStep (given : Setting) (asking : Asking) (cube : List Trit) (steps : List Step) (place : ℕ) (flaw : Flaw) : Type 0 where
  pub circuit : Numbered
  pub of_setting : IsOfSetting given circuit
  pub first : IsFirstBad circuit (asked_in circuit asking) cube steps place flaw

-- the lines are good, and after them an output may change later than the bound
pub record IsAboveBound (given : Setting) (asking : Asking) (cube : List Trit) (steps : List Step) (bound : ℕ) : Type 0 where
  pub circuit : Numbered
  pub of_setting : IsOfSetting given circuit
  pub good : AreAllGood circuit (asked_in circuit asking) cube steps
  pub above : bound < latest_after circuit (asked_in circuit asking) cube steps

-- What lines came to: all are good and lead to this state, or one is the first that isn't. Nothing is
-- said where memory ran out.
abbrev pub AreDone : Numbered → Asked → List Trit → List Step → State → Result (Unit {0}) refusal.Refusal → Type 0
AreDone circuit asked cube steps state (Ok unit) = AreAllGood circuit asked cube steps × (state ≡ last_state circuit asked cube steps)
AreDone circuit asked cube steps state (Err refused.OutOfMemory) = Unit {0}
AreDone circuit asked cube steps state (Err (refused.BadStep place flaw)) = IsFirstBad circuit asked cube steps place flaw

-- what lines show of the pairs of a cube that are asked about is true
abbrev pub RefutedIsBounded : Type 0
RefutedIsBounded = (given : Setting) (asking : Asking) (cube : List Trit) (steps : List Step) (bound : ℕ) → AreMoments given.netlist given.moments
    → length asking.admit.held ≡ length given.netlist.inputs → length cube ≡ 2 * length given.netlist.inputs → IsRefuted given asking cube steps bound
    → IsUpperBoundOf given asking cube bound

-- what a refusal says
abbrev pub IsRefusal : Setting → Asking → List Trit → List Step → refusal.Refusal → Type 0
IsRefusal given asking cube steps refused.OutOfMemory = Unit {0}
IsRefusal given asking cube steps (refused.BadStep place flaw) = IsBadStep given asking cube steps place flaw
