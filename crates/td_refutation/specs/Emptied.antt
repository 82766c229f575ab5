-- Emptied: lines whose last clause is empty, so that no pair of the cube is asked about.
use Rattle.std.specs.Prelude.{◌≡◌, ℕ, ◌*◌, Bool, true, false, List, length}
use Rattle.td_circuit.specs.Settings.{Setting, AreMoments}
use Rattle.td_circuit.specs.Numbering.{Numbered}
use Rattle.td_domain.specs.declared.cubes.Trit.{Trit}
use Rattle.td_spans.specs.Conditions.{Asked}
use Rattle.td_spans.specs.Endings.{ends_empty}
use Rattle.td_refutation.specs.declared.flaw.Flaw.{Flaw}
use Rattle.td_refutation.specs.Asking.{Asking, asked_in}
use Rattle.td_refutation.specs.Refuting.{HasNoPair}
use Rattle.td_refutation.specs.Lines.{Step}
use Rattle.td_refutation.specs.Whole.{IsOfSetting, AreAllGood, last_state, IsBadStep}

-- whether there is a clause after these lines, and the last one is empty
abbrev pub empties_after : Numbered → Asked → List Trit → List Step → Bool
empties_after circuit asked cube steps = ends_empty (last_state circuit asked cube steps).clauses

-- the lines are good
pub record AreGoodIn (given : Setting) (asking : Asking) (cube : List Trit) (steps : List Step) : Type 0 where
  pub circuit : Numbered
  pub of_setting : IsOfSetting given circuit
  pub good : AreAllGood circuit (asked_in circuit asking) cube steps

-- the lines are good, and after them the last clause is empty
pub record IsEmptied (given : Setting) (asking : Asking) (cube : List Trit) (steps : List Step) : Type 0 where
  pub circuit : Numbered
  pub of_setting : IsOfSetting given circuit
  pub good : AreAllGood circuit (asked_in circuit asking) cube steps
  pub empty : empties_after circuit (asked_in circuit asking) cube steps ≡ true

-- the lines are good, and after them there is no clause, or the last one isn't empty
pub record IsNotEmptied (given : Setting) (asking : Asking) (cube : List Trit) (steps : List Step) : Type 0 where
  pub circuit : Numbered
  pub of_setting : IsOfSetting given circuit
  pub good : AreAllGood circuit (asked_in circuit asking) cube steps
  pub filled : empties_after circuit (asked_in circuit asking) cube steps ≡ false

-- where lines empty the cube, no pair of it is asked about
abbrev pub EmptiedHasNoPair : Type 0
EmptiedHasNoPair = (given : Setting) (asking : Asking) (cube : List Trit) (steps : List Step) → AreMoments given.netlist given.moments
    → length asking.admit.held ≡ length given.netlist.inputs → length cube ≡ 2 * length given.netlist.inputs → IsEmptied given asking cube steps
    → HasNoPair given asking cube

-- A leaf is emptied, or isn't, or has a bad step, and no two of these; its lines are good, or it has
-- a bad step, and not both.
pub record EmptiedHasOneVerdict : Type 0 where
  pub emptied_or_not : (given : Setting) (asking : Asking) (cube : List Trit) (steps : List Step) → length cube ≡ 2 * length given.netlist.inputs
      → IsEmptied given asking cube steps → IsNotEmptied given asking cube steps → ⊥
  pub emptied_or_bad : (given : Setting) (asking : Asking) (cube : List Trit) (steps : List Step) (place : ℕ) (flaw : Flaw)
      → length cube ≡ 2 * length given.netlist.inputs → IsEmptied given asking cube steps → IsBadStep given asking cube steps place flaw → ⊥
  pub not_or_bad : (given : Setting) (asking : Asking) (cube : List Trit) (steps : List Step) (place : ℕ) (flaw : Flaw)
      → length cube ≡ 2 * length given.netlist.inputs → IsNotEmptied given asking cube steps → IsBadStep given asking cube steps place flaw → ⊥
  pub good_or_bad : (given : Setting) (asking : Asking) (cube : List Trit) (steps : List Step) (place : ℕ) (flaw : Flaw)
      → length cube ≡ 2 * length given.netlist.inputs → AreGoodIn given asking cube steps → IsBadStep given asking cube steps place flaw → ⊥
