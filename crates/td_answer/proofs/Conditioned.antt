-- Pairs that keep conditions, and one more.
use Rattle.std.proofs.Common.{◌≡◌, ◌∙◌, ℕ, zero, suc, ◌+◌, ◌<◌, ◌≤◌, Bool, true, false, List, [], ◌∷◌, ◌++◌, length, map, refl, sym, ap, subst, arith, Some, inl, inr}
use Rattle.std.specs.Prelude.{slice_get, ◌↔◌, ◌&&◌, ◌||◌, nat_le, nat_lt, ◌==◌}
use Rattle.std.specs.List.{Contains}
use Rattle.std.proofs.lemmas.Bool.{and_parts, eqb-true, leb-true, ltb-true}
use Rattle.td_gates.proofs.Places.{some-same, none-some, slice_get-Contains, Contains-slice_get}
use Rattle.td_nets.specs.Netlist.{Name, Net, Low, High, Named, Netlist}
use Rattle.td_circuit.specs.Settings.{Setting}
use Rattle.td_domain.specs.Pairs.{Pair}
use Rattle.td_domain.specs.Admits.{Admitted}
use Rattle.td_spans.specs.declared.condition.Form.{Form}
use Rattle.td_refutation.specs.declared.conditions.NamedCondition.{NamedCondition}
use Rattle.td_refutation.specs.Asking.{Asking, IsAskedAbout, IsKept, net_at}
use Rattle.td_refute.specs.Kept.{IsTimedAmong}
use Rattle.td_certificate.specs.Accepts.{are_fit, is_before, form_order}
use Rattle.td_question.specs.Keeping.{count_nets}
use Rattle.td_question.specs.Found.{AreOnNets, AreInOrder}
use Rattle.td_question.proofs.NetNames.{net_low}
use Rattle.td_worst.specs.declared.kept_answer.KeptAnswer.{KeptAnswer}
use Rattle.td_worst.specs.declared.kept_answer.KeptAnswer.TheVariants as kept
use Rattle.td_worst.specs.Kept.{IsKeptAnswer}
use Rattle.td_answer.specs.Columns.{IsOnlyOutput, IsTrueAnswer}
use Rattle.td_certificate.specs.ConditionReading.{condition_by}

-- the same conditions
abbrev pub AreSame : List NamedCondition → List NamedCondition → Type 0
AreSame this that = (condition : NamedCondition) → Contains this condition ↔ Contains that condition

-- ---- the pairs of the same conditions

kept_by : (netlist : Netlist) (this that : List NamedCondition) (pair : Pair)
    → ((condition : NamedCondition) → Contains that condition → Contains this condition) → IsKept netlist this pair → IsKept netlist that pair
kept_by netlist this that pair has is = λ before after starts ends i condition net stands named.
    let here = Contains-slice_get this condition (has condition (slice_get-Contains that i condition stands)) in
    is before after starts ends here.0 condition net here.1 named

asked_by : (netlist : Netlist) (admit : Admitted) (this that : List NamedCondition) (pair : Pair)
    → ((condition : NamedCondition) → Contains that condition → Contains this condition)
    → IsAskedAbout netlist (record { admit = admit; keep = this }) pair → IsAskedAbout netlist (record { admit = admit; keep = that }) pair
asked_by netlist admit this that pair has asked = record { admitted = asked.admitted; kept = kept_by netlist this that pair has asked.kept }

module _ (setting : Setting) (admit : Admitted) (this that : List NamedCondition) (same : AreSame this that) where
  abbrev from : Asking
  from = record { admit = admit; keep = this }

  abbrev to : Asking
  to = record { admit = admit; keep = that }

  onward : (pair : Pair) → IsAskedAbout setting.netlist from pair → IsAskedAbout setting.netlist to pair
  onward pair = asked_by setting.netlist admit this that pair (λ c. (same c).1)

  back : (pair : Pair) → IsAskedAbout setting.netlist to pair → IsAskedAbout setting.netlist from pair
  back pair = asked_by setting.netlist admit that this pair (λ c. (same c).0)

  -- what an answer says is true of the pairs of the same conditions
  pub true_answer : (answer : KeptAnswer) → IsKeptAnswer setting from answer → IsTrueAnswer setting to answer
  true_answer (kept.Exact best tree) is = record {
    timed = record { asked = onward best.pair is.0.timed.asked; delay = is.0.timed.delay };
    greatest = λ pair delay asked has. is.0.greatest pair delay (back pair asked) has;
  }
  true_answer (kept.Between best high why steps) is = record {
    timed = record { asked = onward best.pair is.0.timed.asked; delay = is.0.timed.delay };
    greatest = λ pair delay asked has. is.0.greatest pair delay (back pair asked) has;
    ordered = is.0.ordered;
  }
  true_answer (kept.Open high why) is = λ pair delay asked has. is pair delay (back pair asked) has
  true_answer (kept.NoPair tree) is = λ pair asked. is.0 pair (back pair asked)

-- ---- conditions in the order of a certificate

-- a condition that stands before another is on no later net
before_low : (this that : NamedCondition) → is_before this that ≡ true → this.net ≤ that.net
before_low this that is = go (nat_lt this.net that.net) refl is
  where
    go : (less : Bool) → nat_lt this.net that.net ≡ less
        → (less || ((this.net == that.net) && nat_lt (form_order this.form) (form_order that.form))) ≡ true → this.net ≤ that.net
    go true e is = omega (arith, ltb-true this.net that.net e)
    go false e is =
        omega (arith, eqb-true this.net that.net (and_parts (this.net == that.net) (nat_lt (form_order this.form) (form_order that.form)) is).0)

-- conditions that rise are on inputs and gates' outputs
on_nets : (count : ℕ) (keep : List NamedCondition) (i : ℕ) (condition : NamedCondition) → are_fit count keep ≡ true
    → slice_get keep i ≡ Some condition → (2 ≤ condition.net) × (condition.net < count)
on_nets count [] i condition fit at = absurd (none-some condition at)
on_nets count (this ∷ []) zero condition fit at =
    let parts = and_parts (nat_le 2 this.net) (nat_lt this.net count) fit in
    subst (λ (c : NamedCondition). (2 ≤ c.net) × (c.net < count)) (some-same this condition at)
    (leb-true 2 this.net parts.0, ltb-true this.net count parts.1)
on_nets count (this ∷ []) (suc i) condition fit at = absurd (none-some condition at)
on_nets count (this ∷ that ∷ keep) zero condition fit at =
    let parts = and_parts (nat_le 2 this.net && is_before this that) (are_fit count (that ∷ keep)) fit in
    let first = and_parts (nat_le 2 this.net) (is_before this that) parts.0 in
    let next = on_nets count (that ∷ keep) zero that parts.1 refl in
    subst (λ (c : NamedCondition). (2 ≤ c.net) × (c.net < count)) (some-same this condition at)
    (leb-true 2 this.net first.0, omega (arith, before_low this that first.1, next.1))
on_nets count (this ∷ that ∷ keep) (suc i) condition fit at =
    on_nets count (that ∷ keep) i condition (and_parts (nat_le 2 this.net && is_before this that) (are_fit count (that ∷ keep)) fit).1 at

-- the number of an output's net is no constant's
high_number : (netlist : Netlist) (net : ℕ) (name : Name) → net_at netlist net ≡ Some (Named name) → 2 ≤ net
high_number netlist zero name at = absurd (let wrong : Low ≡ Named name = some-same Low (Named name) at in cc)
high_number netlist (suc zero) name at = absurd (let wrong : High ≡ Named name = some-same High (Named name) at in cc)
high_number netlist (suc (suc i)) name at = omega arith

-- with a condition more on an output's net they rise, once they are in order
pub fit_with : (netlist : Netlist) (keep all : List NamedCondition) (net : ℕ) (form : Form) → are_fit (count_nets netlist) keep ≡ true
    → IsOnlyOutput netlist net → AreInOrder (condition_by net form ∷ keep) all → are_fit (count_nets netlist) all ≡ true
fit_with netlist keep all net form fit output ordered =
    ordered.rising (count_nets netlist) (λ condition has. each (Contains-slice_get (condition_by net form ∷ keep) condition has))
  where
    each : {condition : NamedCondition} → ((i : ℕ) × (slice_get (condition_by net form ∷ keep) i ≡ Some condition))
        → (2 ≤ condition.net) × (condition.net < count_nets netlist)
    each {condition} (zero, at) =
        subst (λ (c : NamedCondition). (2 ≤ c.net) × (c.net < count_nets netlist)) (some-same (condition_by net form) condition at)
        (high_number netlist net output.name output.stands, net_low netlist net (Named output.name) output.stands)
    each {condition} (suc i, at) = on_nets (count_nets netlist) keep i condition fit at
