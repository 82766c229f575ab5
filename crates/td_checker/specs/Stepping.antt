-- Internal: what the steps of a leaf came to.
use Rattle.std.specs.Prelude.{◌≡◌, ℕ, ◌+◌, ◌^◌, ◌<◌, List, length, Option, Some, None}
use Rattle.td_circuit.specs.Numbering.{Numbered}
use Rattle.td_domain.specs.declared.cubes.Trit.{Trit}
use Rattle.td_spans.specs.Conditions.{Asked}
use Rattle.td_refutation.specs.declared.flaw.Flaw as step_flaw
use Rattle.td_refutation.specs.declared.kind.StepKind.{StepKind}
use Rattle.td_refutation.specs.declared.refutation.Refutation.{Refutation}
use Rattle.td_refutation.specs.Doing.{State, state_of, IsGood, after, flaw_of}
use Rattle.td_refutation.specs.Lines.{Step, deed_of}
use Rattle.td_refutation.specs.Whole.{AreAllGood, last_state, IsFirstBad}
use Rattle.td_checker.specs.declared.refuting.Stepped as code
use Rattle.td_checker.specs.declared.refuting.Stepped.TheVariants.{Done, Bad}

-- the step was done, or it isn't good for this reason
abbrev pub IsStepped : Numbered → Asked → List Trit → Refutation → Refutation → StepKind → List ℕ → Option step_flaw.Flaw → Type 0
IsStepped circuit asked cube old new kind numbers None =
    IsGood circuit asked cube (state_of old) (deed_of circuit kind numbers) × (state_of new ≡ after circuit (state_of old) (deed_of circuit kind numbers))
IsStepped circuit asked cube old new kind numbers (Some flaw) =
    (IsGood circuit asked cube (state_of old) (deed_of circuit kind numbers) → ⊥) × (flaw ≡ flaw_of (deed_of circuit kind numbers))

-- all steps are good and lead to this state
pub record AreAllDone (circuit : Numbered) (asked : Asked) (cube : List Trit) (steps : List Step) (state : State) (count : ℕ) : Type 0 where
  pub count_is : count ≡ length steps
  pub low : count + 2 < 2 ^ 64
  pub good : AreAllGood circuit asked cube steps
  pub state_is : state ≡ last_state circuit asked cube steps

-- the step at this place is the first that isn't good
pub record IsFirstBadStep (circuit : Numbered) (asked : Asked) (cube : List Trit) (steps : List Step) (place : ℕ) (flaw : step_flaw.Flaw) : Type 0 where
  pub low : place + 2 < 2 ^ 64
  pub first : IsFirstBad circuit asked cube steps place flaw

abbrev pub AreStepped : Numbered → Asked → List Trit → List Step → State → code.Stepped → Type 0
AreStepped circuit asked cube steps state (Done count) = AreAllDone circuit asked cube steps state count
AreStepped circuit asked cube steps state (Bad place flaw) = IsFirstBadStep circuit asked cube steps place flaw
