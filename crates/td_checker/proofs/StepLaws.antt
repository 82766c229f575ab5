-- The steps of a leaf that is refuted, one after another.
use Rattle.std.proofs.Common.{◌≡◌, ℕ, ◌+◌, ◌-◌, ◌<◌, ◌≤◌, ◌^◌, Bool, true, false, cond, ltb, Option, List, [], ◌∷◌, ◌++◌, length, take, length-append, refl, sym, ap, subst, ◌∙◌, append_assoc, arith}
use Rattle.std.specs.Prelude.{slice_get, Some, None}
use Rattle.std.proofs.lemmas.Option.{slice_get_within}
use Rattle.std.proofs.lemmas.Bool.{ltb-true, ltb-false}
use Rattle.std.proofs.lemmas.List.{append-nil}
use Rattle.std.proofs.Math.Seq.{take-append_seam}
use Rattle.td_circuit.specs.Numbering.{Numbered, setting, IsNumbering}
use Rattle.td_domain.specs.declared.cubes.Trit.{Trit}
use Rattle.td_spans.specs.Conditions.{Asked}
use Rattle.td_spans.specs.Endings.{ends_empty}
use Rattle.td_spans.specs.Lowering.{latest_of}
use Rattle.td_refutation.specs.declared.flaw.Flaw as step_flaw
use Rattle.td_refutation.specs.declared.kind.StepKind.{StepKind}
use Rattle.td_refutation.specs.declared.refutation.Refutation.{Refutation}
use Rattle.td_refutation.specs.Doing.{State, state_of, first_state, IsGood as IsGoodStep, AreGood, state_to}
use Rattle.td_refutation.specs.Lines.{Step, deed_of}
use Rattle.td_refutation.specs.Asking.{Asking, asked_in}
use Rattle.td_refutation.specs.Whole.{IsOfSetting, IsFirstBad, IsBadStep}
use Rattle.td_refutation.proofs.Lists.{IsLed, led_more}
use Rattle.td_certificate.specs.declared.tree.Node.TheVariants as node
use Rattle.td_certificate.specs.Steps.{Refuted}
use Rattle.td_certificate.specs.Lines.{IsNext}
use Rattle.td_certificate.specs.Walks.{Line}
use Rattle.td_certificate.specs.Accepts.{IsEnough, Shows, IsBoundWithin, IsGood}
use Rattle.td_checker.specs.declared.judging.Flaw.TheVariants as code
use Rattle.td_checker.specs.declared.judging.Judged.{Judged}
use Rattle.td_checker.specs.declared.judging.Judged.TheVariants as judged
use Rattle.td_checker.specs.Verdicts.{Flaw, NotEmpty, WrongNumber, AboveTime, BadStep, LeaveOpen, AreAbove, HasFlaw, reported_at}
use Rattle.td_checker.specs.Judging.{with_cube, IsFlawed, IsGoodLine, IsJudged}
use Rattle.td_checker.specs.Ending.{found_at, found_by, found_after}
use Rattle.td_checker.specs.Stepping.{IsStepped, AreAllDone, IsFirstBadStep}

-- the steps before this place were done, and these are left
pub record AreUnderWay (circuit : Numbered) (asked : Asked) (cube : List Trit) (all : List Step) (left : List Step) (place : ℕ) (refutation : Refutation) : Type 0 where
  pub front : List Step
  pub parts : all ≡ front ++ left
  pub place_is : place ≡ length front
  pub led : IsLed circuit asked cube (first_state circuit asked cube) (state_of refutation) front

pub under_way : (circuit : Numbered) (asked : Asked) (cube : List Trit) (all left : List Step) (refutation : Refutation) → state_of refutation ≡ first_state circuit asked cube
    → left ≡ all → AreUnderWay circuit asked cube all left 0 refutation
under_way circuit asked cube all left refutation begun is = record {
  front = [];
  parts = sym is;
  place_is = refl;
  led = record { good = tt; is = begun };
}

pub one_more : (circuit : Numbered) (asked : Asked) (cube : List Trit) (all left after_ : List Step) (place : ℕ) (old new : Refutation) (kind : StepKind) (numbers : List ℕ)
    → AreUnderWay circuit asked cube all left place old → IsNext left after_ numbers (Some kind) → IsStepped circuit asked cube old new kind numbers None
    → AreUnderWay circuit asked cube all after_ (place + 1) new
one_more circuit asked cube all left after_ place old new kind numbers so_far next step =
    let this : Step = record { kind = kind; numbers = numbers } in
    record {
      front = so_far.front ++ this ∷ [];
      parts = so_far.parts ∙ ap (λ (steps : List Step). so_far.front ++ steps) next ∙ sym (append_assoc so_far.front (this ∷ []) after_);
      place_is = omega (arith, so_far.place_is, length-append so_far.front (this ∷ []));
      led = led_more circuit asked cube (first_state circuit asked cube) (state_of old) (state_of new) so_far.front this so_far.led step.0 step.1;
    }

-- places are below the count of all steps
pub place_low : (circuit : Numbered) (asked : Asked) (cube : List Trit) (all left : List Step) (place : ℕ) (refutation : Refutation)
    → AreUnderWay circuit asked cube all left place refutation → place + length left ≡ length all
place_low circuit asked cube all left place refutation so_far = omega (arith, so_far.place_is, ap length so_far.parts, length-append so_far.front left)

at_seam : {A : Type 0} (front : List A) (x : A) (back : List A) → slice_get (front ++ x ∷ back) (length front) ≡ Some x
at_seam [] x back = refl
at_seam (y ∷ front) x back = at_seam front x back

pub first_bad_step : (circuit : Numbered) (asked : Asked) (cube : List Trit) (all left after_ : List Step) (place : ℕ) (old new : Refutation) (kind : StepKind) (numbers : List ℕ) (flaw : step_flaw.Flaw)
    → AreUnderWay circuit asked cube all left place old → IsNext left after_ numbers (Some kind) → IsStepped circuit asked cube old new kind numbers (Some flaw) → length all < 2 ^ 63
    → IsFirstBadStep circuit asked cube all place flaw
first_bad_step circuit asked cube all left after_ place old new kind numbers flaw so_far next bad few =
    let this : Step = record { kind = kind; numbers = numbers } in
    let first : State = first_state circuit asked cube in
    let whole : all ≡ so_far.front ++ this ∷ after_ = so_far.parts ∙ ap (λ (steps : List Step). so_far.front ++ steps) next in
    let front_is : take place all ≡ so_far.front = ap (λ (n : ℕ). take n all) so_far.place_is ∙ ap (take (length so_far.front)) so_far.parts ∙ take-append_seam so_far.front left in
    let state_is : state_of old ≡ state_to circuit first (take place all) = so_far.led.is ∙ ap (λ (steps : List Step). state_to circuit first steps) (sym front_is) in
    record {
      low = omega (arith, place_low circuit asked cube all left place old so_far, few);
      first = record {
        step = this;
        stands = ap (slice_get all) so_far.place_is ∙ ap (λ (steps : List Step). slice_get steps (length so_far.front)) whole ∙ at_seam so_far.front this after_;
        good = subst (λ (steps : List Step). AreGood circuit asked cube first steps) (sym front_is) so_far.led.good;
        bad = λ good. bad.0 (subst (λ (s : State). IsGoodStep circuit asked cube s (deed_of circuit kind numbers)) (sym state_is) good);
        why = bad.1;
      };
    }

pub all_done : (circuit : Numbered) (asked : Asked) (cube : List Trit) (all left after_ : List Step) (place : ℕ) (refutation : Refutation) (numbers : List ℕ)
    → AreUnderWay circuit asked cube all left place refutation → IsNext left after_ numbers None → length all < 2 ^ 63
    → AreAllDone circuit asked cube all (state_of refutation) place
all_done circuit asked cube all left after_ place refutation numbers so_far none few =
    let first : State = first_state circuit asked cube in
    let whole : so_far.front ≡ all = sym (so_far.parts ∙ ap (λ (steps : List Step). so_far.front ++ steps) none ∙ append-nil so_far.front) in
    record {
      count_is = so_far.place_is ∙ ap length whole;
      low = omega (arith, so_far.place_is, ap length whole, few);
      good = subst (λ (steps : List Step). AreGood circuit asked cube first steps) whole so_far.led.good;
      state_is = so_far.led.is ∙ ap (λ (steps : List Step). state_to circuit first steps) whole;
    }

-- ---- what is found of the leaf

module _ (circuit : Numbered) (numbering : IsNumbering circuit) (asking : Asking) (most : Option ℕ) (cube : List Trit) (refuted : Refuted) (asked : Asked) (is : asked ≡ asked_in circuit asking) where
  of_setting : IsOfSetting (setting circuit) circuit
  of_setting = record { numbering = numbering; is = refl }

  abbrev line : Line
  line = with_cube cube (node.Refuted refuted)

  pub bad_step_found : (place : ℕ) (flaw : step_flaw.Flaw) → IsFirstBadStep circuit asked cube refuted.steps place flaw
      → IsFlawed (setting circuit) asking most line (BadStep (1 + place - 1) flaw) (1 + place)
  bad_step_found place flaw bad =
      let back : 1 + place - 1 ≡ place = omega arith in
      let below = slice_get_within refuted.steps place bad.first.step bad.first.stands in
      let first : IsFirstBad circuit (asked_in circuit asking) cube refuted.steps place flaw = subst (λ (a : Asked). IsFirstBad circuit a cube refuted.steps place flaw) is bad.first in
      let here : IsBadStep (setting circuit) asking cube refuted.steps place flaw = record { circuit = circuit; of_setting = of_setting; first = first } in
      record {
        has = subst (λ (p : ℕ). IsBadStep (setting circuit) asking cube refuted.steps p flaw) (sym back) here;
        at_is = omega (arith, back);
        inside = omega (arith, below);
      }

  module _ (state : State) (count : ℕ) (given : AreAllDone circuit asked cube refuted.steps state count) where
    done : AreAllDone circuit (asked_in circuit asking) cube refuted.steps state count
    done = subst (λ (a : Asked). AreAllDone circuit a cube refuted.steps state count) is given

    latest_is : latest_of (state_to circuit (first_state circuit (asked_in circuit asking) cube) refuted.steps).times circuit.outputs ≡ latest_of state.times circuit.outputs
    latest_is = ap (λ (s : State). latest_of s.times circuit.outputs) (sym done.state_is)

    empty_is : ends_empty (state_to circuit (first_state circuit (asked_in circuit asking) cube) refuted.steps).clauses ≡ ends_empty state.clauses
    empty_is = ap (λ (s : State). ends_empty s.clauses) (sym done.state_is)

    -- a flaw at the last line
    last_flawed : (flaw : Flaw) → reported_at flaw (node.Refuted refuted) ≡ 1 + length refuted.steps → HasFlaw (setting circuit) asking most flaw line
        → IsFlawed (setting circuit) asking most line flaw (1 + count)
    last_flawed flaw at has = record { has = has; at_is = omega (arith, done.count_is, at); inside = omega (arith, done.count_is) }

    all_good : IsGood (setting circuit) asking most line → IsGoodLine (setting circuit) asking most line (2 + count)
    all_good good = record { good = good; count_is = omega (arith, done.count_is) }

    enough_none : (other : Option ℕ) → refuted.bound ≡ None → IsEnough other (node.Refuted refuted)
    enough_none None none = none
    enough_none (Some m) none = tt

    found_none : refuted.bound ≡ None → (empty : Bool) → ends_empty state.clauses ≡ empty → (latest : ℕ)
        → IsJudged (setting circuit) asking most line (found_by most None empty latest count)
    found_none none true ends latest = all_good (record {
      splits = tt;
      enough = enough_none most none;
      one_pair = tt;
      of_cube = subst (Shows (setting circuit) asking cube refuted.steps) (sym none) (record { circuit = circuit; of_setting = of_setting; good = done.good; empty = empty_is ∙ ends });
      within = subst (IsBoundWithin most) (sym none) tt;
    })
    found_none none false ends latest =
        last_flawed NotEmpty refl
        (tt, subst (LeaveOpen (setting circuit) asking most cube refuted.steps) (sym none) (record { circuit = circuit; of_setting = of_setting; good = done.good; filled = empty_is ∙ ends }))

    module _ (bound : ℕ) (some : refuted.bound ≡ Some bound) where
      no_pair_found : most ≡ None → IsFlawed (setting circuit) asking most line NotEmpty (1 + count)
      no_pair_found none =
          last_flawed NotEmpty refl
          (tt, subst (LeaveOpen (setting circuit) asking most cube refuted.steps) (sym some) (none, record { circuit = circuit; of_setting = of_setting; good = done.good }))

      module _ (high : ℕ) (claimed : most ≡ Some high) where
        enough : IsEnough most (node.Refuted refuted)
        enough = subst (λ (m : Option ℕ). IsEnough m (node.Refuted refuted)) (sym claimed) tt

        shown : latest_of state.times circuit.outputs ≤ bound → Shows (setting circuit) asking cube refuted.steps refuted.bound
        shown within =
            subst (Shows (setting circuit) asking cube refuted.steps) (sym some) (record { circuit = circuit; of_setting = of_setting; good = done.good; within = omega (arith, within, latest_is) })

        above_bound_found : bound < latest_of state.times circuit.outputs → IsFlawed (setting circuit) asking most line WrongNumber (1 + count)
        above_bound_found above =
            last_flawed WrongNumber refl (
              tt,
              enough,
              tt,
              subst (AreAbove (setting circuit) asking cube refuted.steps) (sym some)
                  (record { circuit = circuit; of_setting = of_setting; good = done.good; above = omega (arith, above, latest_is) }),
            )

        above_time_found : latest_of state.times circuit.outputs ≤ bound → high < bound → IsFlawed (setting circuit) asking most line AboveTime (1 + count)
        above_time_found within above =
            last_flawed AboveTime refl (
              tt,
              enough,
              tt,
              shown within,
              λ is_within.
                  let le : bound ≤ high = subst (λ (m : Option ℕ). IsBoundWithin m (Some bound)) claimed (subst (IsBoundWithin most) some is_within) in
                  omega (arith, le, above),
            )

        good_found : latest_of state.times circuit.outputs ≤ bound → bound ≤ high → IsGoodLine (setting circuit) asking most line (2 + count)
        good_found within below = all_good (record {
          splits = tt;
          enough = enough;
          one_pair = tt;
          of_cube = shown within;
          within = subst (IsBoundWithin most) (sym some) (subst (λ (m : Option ℕ). IsBoundWithin m (Some bound)) (sym claimed) below);
        })

        found_some : IsJudged (setting circuit) asking most line (found_at (Some high) bound (latest_of state.times circuit.outputs) count)
        found_some =
            elim (ltb bound (latest_of state.times circuit.outputs)) as (λ t. ltb bound (latest_of state.times circuit.outputs) ≡ t
            → IsJudged (setting circuit) asking most line (cond t (judged.Bad code.WrongNumber (1 + count)) (cond (ltb high bound) (judged.Bad code.AboveTime (1 + count)) (judged.Good (2 + count))))) [
              | true ↦ λ above. above_bound_found (ltb-true bound (latest_of state.times circuit.outputs) above)
              | false ↦ λ not_above.
                  let within : latest_of state.times circuit.outputs ≤ bound = ltb-false bound (latest_of state.times circuit.outputs) not_above in
                  elim (ltb high bound) as (λ t. ltb high bound ≡ t
                  → IsJudged (setting circuit) asking most line (cond t (judged.Bad code.AboveTime (1 + count)) (judged.Good (2 + count)))) [
                    | true ↦ λ above. above_time_found within (ltb-true high bound above)
                    | false ↦ λ low. good_found within (ltb-false high bound low)
                  ] refl
            ] refl

    found_number : (bound : ℕ) → refuted.bound ≡ Some bound → (claimed : Option ℕ) → most ≡ claimed
        → IsJudged (setting circuit) asking most line (found_at claimed bound (latest_of state.times circuit.outputs) count)
    found_number bound some None none = no_pair_found bound some none
    found_number bound some (Some high) claimed = found_some bound some high claimed

    found : (bound : Option ℕ) → refuted.bound ≡ bound
        → IsJudged (setting circuit) asking most line (found_by most bound (ends_empty state.clauses) (latest_of state.times circuit.outputs) count)
    found None none = found_none none (ends_empty state.clauses) refl (latest_of state.times circuit.outputs)
    found (Some bound) some = found_number bound some most refl

    pub done_found : (reported : Judged) → reported ≡ found_after circuit most refuted.bound state count → IsJudged (setting circuit) asking most line reported
    done_found reported is = subst (IsJudged (setting circuit) asking most line) (sym is) (found refuted.bound refl)
