-- Lists: good lines, and one more.
use Rattle.std.proofs.Common.{◌≡◌, ℕ, zero, suc, ◌+◌, List, [], ◌∷◌, ◌++◌, take, map, refl, arith, ap, sym, ◌∙◌, subst, Some}
use Rattle.std.specs.Prelude.{slice_get}
use Rattle.td_circuit.specs.Numbering.{Numbered}
use Rattle.td_domain.specs.declared.cubes.Trit.{Trit}
use Rattle.td_spans.specs.Conditions.{Asked}
use Rattle.td_refutation.specs.declared.flaw.Flaw.{Flaw}
use Rattle.td_refutation.specs.declared.whole.Step as code
use Rattle.td_refutation.specs.Doing.{State, first_state, IsGood, after, flaw_of, AreGood, state_to}
use Rattle.td_refutation.specs.Lines.{Step, deed_of}
use Rattle.td_refutation.specs.Whole.{step_of, IsFirstBad}

pub take_more : {A : Type 0} (xs : List A) (i : ℕ) (x : A) → slice_get xs i ≡ Some x → take (i + 1) xs ≡ take i xs ++ x ∷ []
take_more [] i x at = cc
take_more (y ∷ xs) zero x at = let same : y ≡ x = cc in ap (λ z. z ∷ []) same
take_more (y ∷ xs) (suc i) x at =
    let next : suc i + 1 ≡ suc (i + 1) = omega arith in
    rw next (ap (λ ys. y ∷ ys) (take_more xs i x at))

pub state_more : (circuit : Numbered) (state : State) (xs : List Step) (x : Step)
    → state_to circuit state (xs ++ x ∷ []) ≡ after circuit (state_to circuit state xs) (deed_of circuit x.kind x.numbers)
state_more circuit state [] x = refl
state_more circuit state (y ∷ xs) x = state_more circuit (after circuit state (deed_of circuit y.kind y.numbers)) xs x

pub good_more : (circuit : Numbered) (asked : Asked) (cube : List Trit) (state : State) (xs : List Step) (x : Step) → AreGood circuit asked cube state xs
    → IsGood circuit asked cube (state_to circuit state xs) (deed_of circuit x.kind x.numbers) → AreGood circuit asked cube state (xs ++ x ∷ [])
good_more circuit asked cube state [] x are is = (is, tt)
good_more circuit asked cube state (y ∷ xs) x are is =
    (are.0, good_more circuit asked cube (after circuit state (deed_of circuit y.kind y.numbers)) xs x are.1 is)

-- what good lines have led to
pub record IsLed (circuit : Numbered) (asked : Asked) (cube : List Trit) (first state : State) (steps : List Step) : Type 0 where
  pub good : AreGood circuit asked cube first steps
  pub is : state ≡ state_to circuit first steps

pub led_more : (circuit : Numbered) (asked : Asked) (cube : List Trit) (first state new : State) (steps : List Step) (step : Step) → IsLed circuit asked cube first state steps
    → IsGood circuit asked cube state (deed_of circuit step.kind step.numbers) → new ≡ after circuit state (deed_of circuit step.kind step.numbers)
    → IsLed circuit asked cube first new (steps ++ step ∷ [])
led_more circuit asked cube first state new steps step led good next = record {
  good = good_more circuit asked cube first steps step led.good (subst (λ (s : State). IsGood circuit asked cube s (deed_of circuit step.kind step.numbers)) led.is good);
  is = next ∙ ap (λ (s : State). after circuit s (deed_of circuit step.kind step.numbers)) led.is ∙ sym (state_more circuit first steps step);
}

pub led_taken : (circuit : Numbered) (asked : Asked) (cube : List Trit) (first state new : State) (steps : List Step) (i : ℕ) (step : Step) → slice_get steps i ≡ Some step
    → IsLed circuit asked cube first state (take i steps) → IsGood circuit asked cube state (deed_of circuit step.kind step.numbers)
    → new ≡ after circuit state (deed_of circuit step.kind step.numbers) → IsLed circuit asked cube first new (take (i + 1) steps)
led_taken circuit asked cube first state new steps i step at led good next =
    subst (λ (it : List Step). IsLed circuit asked cube first new it) (sym (take_more steps i step at)) (led_more circuit asked cube first state new (take i steps) step led good next)

get_mapped : {A B : Type 0} (f : A → B) (xs : List A) (i : ℕ) (x : A) → slice_get xs i ≡ Some x → slice_get (map f xs) i ≡ Some (f x)
get_mapped f [] i x at = cc
get_mapped f (y ∷ xs) zero x at = let same : y ≡ x = cc in ap (λ z. Some (f z)) same
get_mapped f (y ∷ xs) (suc i) x at = get_mapped f xs i x at

pub led_mapped : (circuit : Numbered) (asked : Asked) (cube : List Trit) (first state new : State) (steps : List code.Step) (i : ℕ) (step : code.Step)
    → slice_get steps i ≡ Some step → IsLed circuit asked cube first state (take i (map step_of steps)) → IsGood circuit asked cube state (deed_of circuit step.kind step.numbers.items)
    → new ≡ after circuit state (deed_of circuit step.kind step.numbers.items) → IsLed circuit asked cube first new (take (i + 1) (map step_of steps))
led_mapped circuit asked cube first state new steps i step at led good next =
    led_taken circuit asked cube first state new (map step_of steps) i (step_of step) (get_mapped step_of steps i step at) led good next

pub stopped : (circuit : Numbered) (asked : Asked) (cube : List Trit) (state : State) (steps : List code.Step) (i : ℕ) (step : code.Step) (flaw : Flaw) → slice_get steps i ≡ Some step
    → IsLed circuit asked cube (first_state circuit asked cube) state (take i (map step_of steps)) → (IsGood circuit asked cube state (deed_of circuit step.kind step.numbers.items) → ⊥)
    → flaw ≡ flaw_of (deed_of circuit step.kind step.numbers.items) → IsFirstBad circuit asked cube (map step_of steps) i flaw
stopped circuit asked cube state steps i step flaw at led bad why = record {
  step = step_of step;
  stands = get_mapped step_of steps i step at;
  good = led.good;
  bad = λ good. bad (subst (λ (s : State). IsGood circuit asked cube s (deed_of circuit step.kind step.numbers.items)) (sym led.is) good);
  why = why;
}
