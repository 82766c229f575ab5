-- Questions: lines that are good for one question are good for another with the same first times,
-- where its clauses of pairs and of conditions go over.
use Rattle.std.proofs.Common.{◌≡◌, ℕ, ◌≤◌, true, false, List, [], ◌∷◌, length, ap, subst}
use Rattle.td_circuit.specs.Settings.{Setting}
use Rattle.td_circuit.specs.Numbering.{Numbered}
use Rattle.td_domain.specs.declared.cubes.Trit.{Trit}
use Rattle.td_propagation.specs.declared.literal.Literal.{Literal}
use Rattle.td_spans.specs.declared.reason.Reason.{Reason}
use Rattle.td_spans.specs.declared.reason.Reason.TheVariants as reason
use Rattle.td_spans.specs.declared.times.Times.{Times}
use Rattle.td_spans.specs.declared.variable.Variable.{Variable}
use Rattle.td_spans.specs.Conditions.{Asked, is_keep_clause}
use Rattle.td_spans.specs.Lowering.{latest_of}
use Rattle.td_spans.specs.Named.{IsNamed}
use Rattle.td_spans.specs.Pairs.{is_pairs_clause}
use Rattle.td_spans.specs.Signals.{first_times}
use Rattle.td_refutation.specs.Doing.{State, first_state, IsGood, after, AreGood, state_to}
use Rattle.td_refutation.specs.Lines.{Step, Deed, NoDeed, Having, Naming, Showing, Lowering, Retaking, deed_of}
use Rattle.td_refutation.specs.Asking.{Asking, asked_in}
use Rattle.td_refutation.specs.Whole.{AreAllGood, latest_after, IsOfSetting, IsRefuted}

-- a question's first times are another's, and its clauses of pairs and of conditions are
pub record GoesOver (circuit : Numbered) (one other : Asked) (cube cube' : List Trit) : Type 0 where
  pub times : first_times circuit one.admit cube ≡ first_times circuit other.admit cube'
  pub pairs : (variables : List Variable) (clause : List Literal) → is_pairs_clause (length circuit.netlist.inputs) one.admit cube variables clause ≡ true
      → is_pairs_clause (length circuit.netlist.inputs) other.admit cube' variables clause ≡ true
  pub keep : (variables : List Variable) (clause : List Literal) → is_keep_clause one.keep variables clause ≡ true
      → is_keep_clause other.keep variables clause ≡ true

module _ (circuit : Numbered) (one other : Asked) (cube cube' : List Trit) (goes : GoesOver circuit one other cube cube') where
  first_same : first_state circuit one cube ≡ first_state circuit other cube'
  first_same = ap (λ (times : List Times). record { variables = []; begun = false; times = times; clauses = [] }) goes.times

  named_over : (state : State) (why : Reason) (clause : List Literal) → IsNamed circuit one cube state.variables state.times why clause
      → IsNamed circuit other cube' state.variables state.times why clause
  named_over state reason.Gate clause named = named
  named_over state reason.Table clause named = named
  named_over state reason.Net clause named = named
  named_over state reason.Pairs clause named = (named.0, goes.pairs state.variables clause named.1)
  named_over state reason.Keep clause named = (named.0, goes.keep state.variables clause named.1)

  good_over : (state : State) (deed : Deed) → IsGood circuit one cube state deed → IsGood circuit other cube' state deed
  good_over state NoDeed good = good
  good_over state (Having new) good = good
  good_over state (Naming why clause) good = named_over state why clause good
  good_over state (Showing clause hints) good = good
  good_over state (Lowering net level place clause hints) good = good
  good_over state (Retaking net) good = good

  all_over : (state : State) (steps : List Step) → AreGood circuit one cube state steps → AreGood circuit other cube' state steps
  all_over state [] good = tt
  all_over state (step ∷ steps) good = (
    good_over state (deed_of circuit step.kind step.numbers) good.0,
    all_over (after circuit state (deed_of circuit step.kind step.numbers)) steps good.1,
  )

  pub good_goes : (steps : List Step) → AreAllGood circuit one cube steps → AreAllGood circuit other cube' steps
  good_goes steps good = subst (λ (s : State). AreGood circuit other cube' s steps) first_same (all_over (first_state circuit one cube) steps good)

  pub latest_goes : (steps : List Step) → latest_after circuit one cube steps ≡ latest_after circuit other cube' steps
  latest_goes steps = ap (λ (s : State). latest_of (state_to circuit s steps).times circuit.outputs) first_same

-- what lines show of pairs of a cube they show of others
pub refuted_goes : (given : Setting) (asking asking' : Asking) (cube cube' : List Trit) (steps : List Step) (bound : ℕ)
    → ((circuit : Numbered) → IsOfSetting given circuit → GoesOver circuit (asked_in circuit asking) (asked_in circuit asking') cube cube')
    → IsRefuted given asking cube steps bound → IsRefuted given asking' cube' steps bound
refuted_goes given asking asking' cube cube' steps bound goes h =
    let over = goes h.circuit h.of_setting in
    record {
      circuit = h.circuit;
      of_setting = h.of_setting;
      good = good_goes h.circuit (asked_in h.circuit asking) (asked_in h.circuit asking') cube cube' over steps h.good;
      within = subst (λ (n : ℕ). n ≤ bound) (latest_goes h.circuit (asked_in h.circuit asking) (asked_in h.circuit asking') cube cube' over steps) h.within;
    }
