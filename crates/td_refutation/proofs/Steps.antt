-- Steps: good lines, one after another, keep what is true of the runs.
use Rattle.std.proofs.Common.{◌≡◌, ◌*◌, true, false, List, [], ◌∷◌, ◌++◌, length, refl, ap, subst, arith}
use Rattle.td_circuit.specs.Settings.{Setting, AreMoments}
use Rattle.td_circuit.specs.Numbering.{Numbered, setting}
use Rattle.td_domain.specs.declared.cubes.Trit.{Trit}
use Rattle.td_domain.proofs.Changing.{vectors_in}
use Rattle.td_propagation.specs.declared.literal.Literal.{Literal}
use Rattle.td_spans.specs.declared.times.Times.{Times}
use Rattle.td_spans.specs.declared.variable.Variable.{Variable}
use Rattle.td_spans.specs.Conditions.{Asked}
use Rattle.td_spans.specs.Signals.{first_times}
use Rattle.td_spans.specs.Refuting.{Refutes}
use Rattle.td_spans.specs.Laws.{IsAsked}
use Rattle.td_spans.proofs.Bounding.{empty_none}
use Rattle.td_spans.proofs.Steps.{first_refutes, steps_refute, refuted_bounds}
use Rattle.td_refutation.specs.Doing.{State, first_state, IsGood, after, AreGood, state_to}
use Rattle.td_refutation.specs.Lines.{Step, Deed, NoDeed, Having, Naming, Showing, Lowering, Retaking, deed_of}
use Rattle.td_refutation.specs.Asking.{Asking, asked_in}
use Rattle.td_refutation.specs.Refuting.{IsUpperBoundOf, HasNoPair}
use Rattle.td_refutation.specs.Whole.{IsOfSetting, AreAllGood, last_state, RefutedIsBounded}
use Rattle.td_refutation.specs.Emptied.{EmptiedHasNoPair}
use Rattle.td_refutation.proofs.Asking.{kept_in}

-- Before the first step the times are the first ones, and there are no clauses; always they are true
-- of the runs.
record IsKept (circuit : Numbered) (asked : Asked) (cube : List Trit) (state : State) : Type 0 where
  times : state.begun ≡ false → state.times ≡ first_times circuit asked.admit cube
  clauses : state.begun ≡ false → state.clauses ≡ []
  refutes : Refutes circuit asked cube state.variables state.times state.clauses

moved : (circuit : Numbered) (asked : Asked) (cube : List Trit) (variables : List Variable) (times times' : List Times) (clauses : List (List Literal)) → times' ≡ times → clauses ≡ []
    → Refutes circuit asked cube variables times [] → Refutes circuit asked cube variables times' clauses
moved circuit asked cube variables times times' clauses is none holds = rw (is, none) holds

module _ (circuit : Numbered) (asked : Asked) (cube : List Trit) (fits : IsAsked circuit asked cube) where
  kept_first : IsKept circuit asked cube (first_state circuit asked cube)
  kept_first = record { times = λ same. refl; clauses = λ same. refl; refutes = first_refutes circuit asked cube [] fits }

  kept_after : (state : State) (deed : Deed) → IsKept circuit asked cube state → IsGood circuit asked cube state deed → IsKept circuit asked cube (after circuit state deed)
  kept_after state NoDeed kept good = absurd good
  kept_after state (Having new) kept good = record {
    times = kept.times;
    clauses = kept.clauses;
    refutes = moved circuit asked cube (state.variables ++ new ∷ []) (first_times circuit asked.admit cube) state.times state.clauses (kept.times good) (kept.clauses good)
        (first_refutes circuit asked cube (state.variables ++ new ∷ []) fits);
  }
  kept_after state (Naming why clause) kept good = record {
    times = λ no. absurd (let wrong : true ≡ false = no in cc);
    clauses = λ no. absurd (let wrong : true ≡ false = no in cc);
    refutes = steps_refute.named circuit asked cube state.variables fits state.times state.clauses kept.refutes why clause good;
  }
  kept_after state (Showing clause hints) kept good = record {
    times = λ no. absurd (let wrong : true ≡ false = no in cc);
    clauses = λ no. absurd (let wrong : true ≡ false = no in cc);
    refutes = steps_refute.shown circuit asked cube state.variables fits state.times state.clauses kept.refutes (length state.variables) clause hints good.1;
  }
  kept_after state (Lowering net level place clause hints) kept good = record {
    times = λ no. absurd (let wrong : true ≡ false = no in cc);
    clauses = λ no. absurd (let wrong : true ≡ false = no in cc);
    refutes = steps_refute.lowered circuit asked cube state.variables fits state.times state.clauses kept.refutes net level place (length state.variables) clause hints good.0 good.1 good.2;
  }
  kept_after state (Retaking net) kept good = record {
    times = λ no. absurd (let wrong : true ≡ false = no in cc);
    clauses = λ no. absurd (let wrong : true ≡ false = no in cc);
    refutes = steps_refute.again circuit asked cube state.variables fits state.times state.clauses kept.refutes net good.0 good.1;
  }

  kept_to : (steps : List Step) (state : State) → AreGood circuit asked cube state steps → IsKept circuit asked cube state → IsKept circuit asked cube (state_to circuit state steps)
  kept_to [] state good kept = kept
  kept_to (step ∷ steps) state good kept =
      kept_to steps (after circuit state (deed_of circuit step.kind step.numbers)) good.1 (kept_after state (deed_of circuit step.kind step.numbers) kept good.0)

pub refuted_is_bounded : RefutedIsBounded
refuted_is_bounded given asking cube steps bound fit helds count refuted =
    let circuit : Numbered = refuted.circuit in
    let asked : Asked = asked_in circuit asking in
    let same : setting circuit ≡ given = refuted.of_setting.is in
    let net_is : circuit.netlist ≡ given.netlist = ap (λ (s : Setting). s.netlist) same in
    let moments_are : circuit.moments ≡ given.moments = ap (λ (s : Setting). s.moments) same in
    let fits : IsAsked circuit asked cube =
    record { numbering = refuted.of_setting.numbering; moments = rw (net_is, moments_are) fit; whole = rw net_is count; held = rw net_is helds } in
    let last : State = state_to circuit (first_state circuit asked cube) steps in
    let kept = kept_to circuit asked cube fits steps (first_state circuit asked cube) refuted.good (kept_first circuit asked cube fits) in
    subst (λ (s : Setting). IsUpperBoundOf s asking cube bound) same
    (λ pair delay about is_in is_delay.
    let long = vectors_in (length circuit.netlist.inputs) cube pair.first pair.second fits.whole is_in in
    let under = refuted_bounds circuit asked cube last.variables fits last.times last.clauses kept.refutes pair delay
    (record { admitted = about.admitted; kept = kept_in circuit fits.numbering asking.keep pair long.0 long.1 about.kept }) is_in is_delay in
    omega (arith, under, refuted.within))

-- the lists fit the circuit of a setting
fits_of : (given : Setting) (circuit : Numbered) (asking : Asking) (cube : List Trit) → IsOfSetting given circuit → AreMoments given.netlist given.moments
    → length asking.admit.held ≡ length given.netlist.inputs → length cube ≡ 2 * length given.netlist.inputs → IsAsked circuit (asked_in circuit asking) cube
fits_of given circuit asking cube of fit helds count =
    let net_is : circuit.netlist ≡ given.netlist = ap (λ (s : Setting). s.netlist) of.is in
    let moments_are : circuit.moments ≡ given.moments = ap (λ (s : Setting). s.moments) of.is in
    record { numbering = of.numbering; moments = rw (net_is, moments_are) fit; whole = rw net_is count; held = rw net_is helds }

-- where the last clause is empty, no pair of the cube is asked about
pub emptied_has_no_pair : EmptiedHasNoPair
emptied_has_no_pair given asking cube steps fit helds count emptied =
    let circuit : Numbered = emptied.circuit in
    let asked : Asked = asked_in circuit asking in
    let fits = fits_of given circuit asking cube emptied.of_setting fit helds count in
    let last : State = state_to circuit (first_state circuit asked cube) steps in
    let kept = kept_to circuit asked cube fits steps (first_state circuit asked cube) emptied.good (kept_first circuit asked cube fits) in
    subst (λ (s : Setting). HasNoPair s asking cube) emptied.of_setting.is
    (λ pair about is_in.
    let long = vectors_in (length circuit.netlist.inputs) cube pair.first pair.second fits.whole is_in in
    empty_none circuit fits.numbering fits.moments cube fits.whole asked last.variables last.times last.clauses kept.refutes emptied.empty pair
    (record { admitted = about.admitted; kept = kept_in circuit fits.numbering asking.keep pair long.0 long.1 about.kept }) is_in)
