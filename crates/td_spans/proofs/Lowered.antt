-- Lowered: ends that are made lower stay right, and no net changes after its ends.
use Rattle.std.proofs.Common.{◌≡◌, ℕ, ◌<◌, ◌≤◌, max, min, Bool, true, false, List, [], ◌∷◌, length, map, get_or, set, refl, arith, ap, sym, ◌∙◌, subst, inl, inr, Option, Some, None}
use Rattle.std.specs.Prelude.{slice_get, nat_le, not, ◌==◌}
use Rattle.std.specs.List.{AllByRecursion}
use Rattle.std.proofs.lemmas.Bool.{cases_lt, leb-true, and_parts, or_cases, eqb-true}
use Rattle.td_gates.proofs.Places.{slice_get-set_cases}
use Rattle.td_circuit.specs.Numbering.{NumberedGate}
use Rattle.td_spans.specs.Targets.{target_bit}
use Rattle.td_propagation.specs.declared.literal.Literal.{Literal}
use Rattle.td_propagation.specs.Literals.{signed, literal_true, clause_true, IsTrueUnder}
use Rattle.td_spans.specs.Timed.{IsGate}
use Rattle.td_spans.specs.declared.times.Places.{Places}
use Rattle.td_spans.specs.declared.times.Times.{Times}
use Rattle.td_spans.specs.declared.variable.Variable.{Variable}
use Rattle.td_spans.specs.declared.variable.Variable.TheVariants.{First, Last, Span, Flips}
use Rattle.td_spans.specs.Times.{is_by, place_for, AreTimes, AreAllTimes}
use Rattle.td_spans.specs.Rules.{no_times, times_of, end_by}
use Rattle.td_spans.specs.Sayings.{Holds, AreMeant}
use Rattle.td_spans.specs.Clauses.{level_is, is_none}
use Rattle.td_spans.specs.Lowering.{with_place, lowered, lower, is_at_rest, are_at_rest, end_again, again}
use Rattle.td_spans.proofs.Gates.{not_self, bit_cases}
use Rattle.td_spans.proofs.Speaking.{signed_value}
use Rattle.td_spans.proofs.Firsts.{ends_later, times_at}

level_same : (a b : Bool) → level_is a b ≡ true → a ≡ b
level_same true true is = refl
level_same true false is = cc
level_same false true is = cc
level_same false false is = refl

with_here : (places : Places) (v : Bool) (place : ℕ) → place_for (with_place places v place) v ≡ place
with_here places true place = refl
with_here places false place = refl

with_other : (places : Places) (v : Bool) (place : ℕ) → place_for (with_place places v place) (not v) ≡ place_for places (not v)
with_other places true place = refl
with_other places false place = refl

-- one net's times, where it is at rest from the place on if it ends at the level
lowered_right : (it : Times) (levels : ℕ → Bool) (b v : Bool) (place : ℕ) → AreTimes it levels b
    → (b ≡ v → (n : ℕ) → place ≤ n → levels n ≡ b) → AreTimes (lowered it v place) levels b
lowered_right it levels b v place are more = record {
  keeps = are.keeps;
  rests = λ n late. bit_cases b v
      (λ same.
      let from : min (place_for it.ends v) place ≤ n = rw (same, with_here it.ends v (min (place_for it.ends v) place)) at late in
      elim (cases_lt n place) [
        | inl before ↦ are.rests n (rw same (omega arith))
        | inr on ↦ more same n on
      ])
      (λ other.
      let from : place_for it.ends (not v) ≤ n = rw (other, with_other it.ends v (min (place_for it.ends v) place)) at late in
      are.rests n (rw other from));
}

module _ (level : ℕ → ℕ → Bool) (final : ℕ → Bool) (times : List Times) (right : AreAllTimes times level final) where
  -- Times stay right where those of a net become others that are right.
  set_right : (net : ℕ) (now : Times) → AreTimes now (level net) (final net) → AreAllTimes (set times net now) level final
  set_right net now is other it at =
      elim (slice_get-set_cases times net now other it at) [
        | inl here ↦ subst (λ (t : Times). AreTimes t (level other) (final other)) here.1
            (subst (λ (k : ℕ). AreTimes now (level k) (final k)) (sym here.0) is)
        | inr away ↦ right other it away.1
      ]

  -- Times stay right where a net that ends at a level is at rest from a place on.
  pub lower_right : (net : ℕ) (v : Bool) (place : ℕ) → net < length times → (final net ≡ v → (n : ℕ) → place ≤ n → level net n ≡ final net)
      → AreAllTimes (lower times net v place) level final
  lower_right net v place low more = set_right net (lowered (get_or times net no_times) v place)
      (lowered_right (get_or times net no_times) (level net) (final net) v place (times_at level times final right net low) more)

  -- A gate ends at the target of the levels at which its inputs end.
  pub final_is : (gate : NumberedGate) (net : ℕ) (target : ℕ → Bool) → IsGate gate level net target → AllByRecursion (λ i. i < length times) gate.inputs
      → net < length times → target_bit gate.kind (map final gate.inputs) ≡ final net
  final_is gate net target is lows low =
      let it = times_at level times final right net low in
      let far : ℕ = max (place_for (get_or times net no_times).ends (final net)) (end_by gate.kind gate.delay (times_of times gate.inputs) (target_bit gate.kind (map final gate.inputs))) in
      sym (ends_later level times final right gate net target is lows far (omega arith)) ∙ it.rests far (omega arith)

  -- A gate rests from its end by the ends of its inputs on.
  again_rests : (gate : NumberedGate) (net : ℕ) (target : ℕ → Bool) → IsGate gate level net target → AllByRecursion (λ i. i < length times) gate.inputs
      → net < length times → (v : Bool) → final net ≡ v → (n : ℕ) → end_again times gate v ≤ n → level net n ≡ final net
  again_rests gate net target is lows low v same n late =
      let ends = final_is gate net target is lows low in
      ends_later level times final right gate net target is lows n (rw (ends ∙ same) late) ∙ ends

  -- A gate's ends by the ends of its inputs as they are.
  pub again_right : (gate : NumberedGate) (net : ℕ) (target : ℕ → Bool) → IsGate gate level net target → AllByRecursion (λ i. i < length times) gate.inputs
      → net < length times → AreAllTimes (again times net gate) level final
  again_right gate net target is lows low =
      let it : Times = get_or times net no_times in
      let once = lowered_right it (level net) (final net) false (end_again times gate false) (times_at level times final right net low)
      (again_rests gate net target is lows low false) in
      set_right net (lowered (lowered it false (end_again times gate false)) true (end_again times gate true))
      (lowered_right (lowered it false (end_again times gate false)) (level net) (final net) true (end_again times gate true) once
      (again_rests gate net target is lows low true))

  -- A net that is at rest from a place on is so at its ends.
  pub latest_right : (net : ℕ) (t : ℕ) → net < length times
      → max (get_or times net no_times).ends.zero (get_or times net no_times).ends.one ≤ t → level net t ≡ final net
  latest_right net t low late = (times_at level times final right net low).rests t (go (get_or times net no_times).ends (final net) late)
    where
      go : (places : Places) (b : Bool) → max places.zero places.one ≤ t → place_for places b ≤ t
      go places true late = omega arith
      go places false late = omega arith

  module _ (variables : List Variable) (valuation : ℕ → Bool) (meant : AreMeant level final variables valuation) where
    rest_by : (net : ℕ) (v : Bool) (place : ℕ) (positive : Bool) (x : ℕ) (o : Option Variable) → slice_get variables x ≡ o
        → ((n : ℕ) (late : ℕ) → (far : ℕ) × (late ≤ far) × (level n far ≡ final n))
        → is_at_rest net v place positive o ≡ true → signed positive (valuation x) ≡ true → final net ≡ v → (n : ℕ) → place ≤ n → level net n ≡ final net
    rest_by net v place positive x None at far is holds ends n late = cc
    rest_by net v place positive x (Some (First other)) at far is holds ends n late = cc
    rest_by net v place positive x (Some (Last other)) at far is holds ends n late =
        let a = and_parts (other == net) _ is in
        absurd (not_self v (sym ends ∙ ap final (sym (eqb-true other net a.0)) ∙ sym (meant x (Last other) at) ∙ signed_value positive (valuation x) holds
        ∙ level_same positive (not v) a.1))
    rest_by net v place true x (Some (Span s)) at far is holds ends n late =
        let a = and_parts (s.net == net) _ is in
        let b = and_parts (nat_le s.first place) (is_none s.last) a.1 in
        let same : s.net ≡ net = eqb-true s.net net a.0 in
        let none : s.last ≡ None = no_last s.last b.1 in
        let first = leb-true s.first place b.0 in
        let span : Holds level s = (meant x (Span s) at).0 holds in
        let there = far s.net s.first in
        let at_end : s.level ≡ final s.net = sym (span there.0 there.1 (ap (is_by there.0) none)) ∙ there.2 in
        ap (λ (k : ℕ). level k n) (sym same) ∙ span n (omega arith) (ap (is_by n) none) ∙ at_end ∙ ap final same
      where
        no_last : (o : Option ℕ) → is_none o ≡ true → o ≡ None
        no_last None is = refl
        no_last (Some n) is = cc
    rest_by net v place false x (Some (Span s)) at far is holds ends n late = cc
    rest_by net v place positive x (Some (Flips i k)) at far is holds ends n late = cc

    -- A clause each of whose literals says that a net doesn't end at a level or is at rest from a
    -- place on, where it is true.
    pub clause_rests : (net : ℕ) (v : Bool) (place : ℕ) (clause : List Literal) → ((n : ℕ) (late : ℕ) → (far : ℕ) × (late ≤ far) × (level n far ≡ final n))
        → are_at_rest variables net v place clause ≡ true → IsTrueUnder valuation clause → final net ≡ v → (n : ℕ) → place ≤ n → level net n ≡ final net
    clause_rests net v place [] far are holds = cc
    clause_rests net v place (literal ∷ clause) far are holds =
        let both = and_parts (is_at_rest net v place literal.positive (slice_get variables literal.variable)) (are_at_rest variables net v place clause) are in
        elim (or_cases (literal_true valuation literal) (clause_true valuation clause) holds) [
          | inl first ↦ rest_by net v place literal.positive literal.variable (slice_get variables literal.variable) refl far both.0 first
          | inr rest ↦ clause_rests net v place clause far both.1 rest
        ]
