-- Numberings: a leaf has one verdict, whatever the numbers of the nets.
use Rattle.std.specs.Prelude.{◌≡◌, ℕ, ◌*◌, List, length, slice_get, Some}
use Rattle.td_circuit.specs.Settings.{Setting}
use Rattle.td_circuit.specs.Numbering.{Numbered, nets, AreNumbersOf}
use Rattle.td_nets.specs.Netlist.{Net}
use Rattle.td_domain.specs.declared.cubes.Trit.{Trit}
use Rattle.td_spans.specs.declared.condition.Condition.{Condition}
use Rattle.td_spans.specs.Conditions.{Asked}
use Rattle.td_spans.specs.Lowering.{latest_of}
use Rattle.td_refutation.specs.declared.flaw.Flaw.{Flaw}
use Rattle.td_refutation.specs.Asking.{Asking}
use Rattle.td_refutation.specs.Doing.{State}
use Rattle.td_refutation.specs.Lines.{Step}
use Rattle.td_refutation.specs.Whole.{IsOfSetting, AreAllGood, last_state, latest_after, IsFirstBad, IsRefuted, IsAboveBound, IsBadStep}

-- two conditions on one net, by its numbers in two circuits
pub record IsSameCondition (this that : Numbered) (one other : Condition) : Type 0 where
  pub net : Net
  pub here : slice_get (nets this) one.net ≡ Some net
  pub there : slice_get (nets that) other.net ≡ Some net
  pub form : other.form ≡ one.form

-- two questions of the same pairs, with conditions on the same nets, by their numbers in two circuits
pub record IsSameQuestion (this that : Numbered) (one other : Asked) : Type 0 where
  pub admit : other.admit ≡ one.admit
  pub count : length other.keep ≡ length one.keep
  pub each : (i : ℕ) (a b : Condition) → slice_get one.keep i ≡ Some a → slice_get other.keep i ≡ Some b → IsSameCondition this that a b

-- two states with the same clauses and the same times of nets, by their numbers in two circuits
pub record IsSameState (this that : Numbered) (one other : State) : Type 0 where
  pub clauses : other.clauses ≡ one.clauses
  pub latest : (numbers numbers' : List ℕ) (named : List Net) → AreNumbersOf (nets this) numbers named → AreNumbersOf (nets that) numbers' named
      → latest_of other.times numbers' ≡ latest_of one.times numbers

-- Lines have one verdict, whatever the numbers of the nets: where they are good, they are for each
-- numbering, and lead to the same; where one is the first that isn't good, it is for each, for the
-- same reason.
pub record OneVerdict : Type 0 where
  pub good : (given : Setting) (this that : Numbered) (one other : Asked) (cube : List Trit) (steps : List Step) → IsOfSetting given this → IsOfSetting given that
      → IsSameQuestion this that one other → length cube ≡ 2 * length given.netlist.inputs → AreAllGood this one cube steps
      → AreAllGood that other cube steps × IsSameState this that (last_state this one cube steps) (last_state that other cube steps)
  pub latest : (given : Setting) (this that : Numbered) (one other : Asked) (cube : List Trit) (steps : List Step) → IsOfSetting given this → IsOfSetting given that
      → IsSameQuestion this that one other → length cube ≡ 2 * length given.netlist.inputs → AreAllGood this one cube steps
      → latest_after that other cube steps ≡ latest_after this one cube steps
  pub bad : (given : Setting) (this that : Numbered) (one other : Asked) (cube : List Trit) (steps : List Step) (place : ℕ) (flaw : Flaw) → IsOfSetting given this
      → IsOfSetting given that → IsSameQuestion this that one other → length cube ≡ 2 * length given.netlist.inputs → IsFirstBad this one cube steps place flaw
      → AreAllGood that other cube steps → ⊥
  pub first : (given : Setting) (this that : Numbered) (one other : Asked) (cube : List Trit) (steps : List Step) (place place' : ℕ) (flaw flaw' : Flaw)
      → IsOfSetting given this → IsOfSetting given that → IsSameQuestion this that one other → length cube ≡ 2 * length given.netlist.inputs
      → IsFirstBad this one cube steps place flaw → IsFirstBad that other cube steps place' flaw' → (place ≡ place') × (flaw ≡ flaw')

-- A leaf is refuted within its bound, or above it, or has a bad step, and no two of these; its bad
-- step is one, with one flaw.
pub record LeafHasOneVerdict : Type 0 where
  pub refuted_or_above : (given : Setting) (asking : Asking) (cube : List Trit) (steps : List Step) (bound : ℕ) → length cube ≡ 2 * length given.netlist.inputs
      → IsRefuted given asking cube steps bound → IsAboveBound given asking cube steps bound → ⊥
  pub refuted_or_bad : (given : Setting) (asking : Asking) (cube : List Trit) (steps : List Step) (bound place : ℕ) (flaw : Flaw)
      → length cube ≡ 2 * length given.netlist.inputs → IsRefuted given asking cube steps bound → IsBadStep given asking cube steps place flaw → ⊥
  pub above_or_bad : (given : Setting) (asking : Asking) (cube : List Trit) (steps : List Step) (bound place : ℕ) (flaw : Flaw)
      → length cube ≡ 2 * length given.netlist.inputs → IsAboveBound given asking cube steps bound → IsBadStep given asking cube steps place flaw → ⊥
  pub one_bad_step : (given : Setting) (asking : Asking) (cube : List Trit) (steps : List Step) (place place' : ℕ) (flaw flaw' : Flaw)
      → length cube ≡ 2 * length given.netlist.inputs → IsBadStep given asking cube steps place flaw → IsBadStep given asking cube steps place' flaw'
      → (place ≡ place') × (flaw ≡ flaw')
