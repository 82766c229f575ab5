-- RenamedTimes: nets keep the same times by other numbers, from the first ones on.
use Rattle.std.proofs.Common.{◌≡◌, ℕ, zero, suc, ◌+◌, ◌-◌, ◌<◌, ◌≤◌, max, Bool, true, false, List, [], ◌∷◌, length, map, get_or, set, Some, inl, inr, refl, ap, sym, ◌∙◌, subst, arith}
use Rattle.std.specs.Prelude.{slice_get, option_map, unwrap_or, filter_map}
use Rattle.std.specs.List.{AllByRecursion}
use Rattle.std.proofs.lemmas.Bool.{cases_eq, cases_lt}
use Rattle.std.proofs.lemmas.List.Elements.{recursion_from_All}
use Rattle.std.proofs.lemmas.Option.{slice_get-map, slice_get_past, slice_get-get_or, unwrap_or-slice_get}
use Rattle.std.proofs.Math.ListN.{length-set}
use Rattle.td_gates.proofs.Places.{slice_get-set_same, slice_get-set_other, slice_get-some, slice_get-none}
use Rattle.td_circuit.specs.Numbering.{NumberedGate, Numbered, IsNumbering, first_output}
use Rattle.td_circuit.proofs.Nets.{lower-at}
use Rattle.td_domain.specs.declared.cubes.Trit.{Trit}
use Rattle.td_domain.specs.Admits.{Admitted}
use Rattle.td_edges.specs.declared.signals.Signal.{Signal}
use Rattle.td_edges.specs.EdgeSignals.{gate_signal}
use Rattle.td_spans.specs.declared.times.Times.{Times}
use Rattle.td_spans.specs.Lookups.{no_gate, IsDriven, driver}
use Rattle.td_spans.specs.Rules.{no_times, times_of}
use Rattle.td_spans.specs.Lowering.{lowered, lower, end_again, again, latest_of}
use Rattle.td_spans.specs.Opening.{AreEdges}
use Rattle.td_spans.specs.Signals.{input_at, output_signal, times_from, first_times}
use Rattle.td_spans.proofs.Openings.{are_first}
use Rattle.td_refutation.proofs.Renaming.{renamed_gate, AreRenamed, IsOneOne, IsRenaming, same_map}

set_past : (times : List Times) (net : ℕ) (it : Times) → length times ≤ net → slice_get (set times net it) net ≡ slice_get times net
set_past times net it past =
    slice_get_past (set times net it) net (let l = length-set times net it in let p = past in omega arith) ∙ sym (slice_get_past times net past)

module _ (r : ℕ → ℕ) (one_one : IsOneOne r) (times times' : List Times) (same : AreRenamed r times times') where
  pub get_same : (n : ℕ) (d : Times) → get_or times' (r n) d ≡ get_or times n d
  get_same n d = sym (unwrap_or-slice_get times' (r n) d) ∙ ap (λ o. unwrap_or o d) (same n) ∙ unwrap_or-slice_get times n d

  pub below_same : (n : ℕ) → n < length times → r n < length times'
  below_same n low = slice_get-some times' (r n) (get_or times n no_times) (same n ∙ slice_get-get_or times n no_times low)

  past_same : (n : ℕ) → length times ≤ n → length times' ≤ r n
  past_same n past = slice_get-none times' (r n) (same n ∙ slice_get_past times n past)

  set_same : (net : ℕ) (it : Times) → AreRenamed r (set times net it) (set times' (r net) it)
  set_same net it n = elim (cases_eq n net) [
    | inr other ↦ slice_get-set_other times' (r net) it (r n) (λ is. other (one_one n net is)) ∙ same n ∙ sym (slice_get-set_other times net it n other)
    | inl is ↦ subst (λ (k : ℕ). slice_get (set times' (r net) it) (r k) ≡ slice_get (set times net it) k) (sym is) (elim (cases_lt net (length times)) [
      | inl low ↦ slice_get-set_same times' (r net) it (below_same net low) ∙ sym (slice_get-set_same times net it low)
      | inr past ↦ set_past times' (r net) it (past_same net past) ∙ same net ∙ sym (set_past times net it past)
    ])
  ]

  pub lower_same : (net : ℕ) (bit : Bool) (place : ℕ) → AreRenamed r (lower times net bit place) (lower times' (r net) bit place)
  lower_same net bit place =
      subst (λ (it : Times). AreRenamed r (lower times net bit place) (set times' (r net) (lowered it bit place))) (sym (get_same net no_times))
      (set_same net (lowered (get_or times net no_times) bit place))

  times_same : (nets : List ℕ) → times_of times' (map r nets) ≡ times_of times nets
  times_same nets = same_map r (λ net. get_or times' net no_times) (λ net. get_or times net no_times) nets (λ net. get_same net no_times)

  pub again_same : (net : ℕ) (gate : NumberedGate) → AreRenamed r (again times net gate) (again times' (r net) (renamed_gate r gate))
  again_same net gate =
      rw (get_same net no_times, times_same gate.inputs)
      (set_same net (lowered (lowered (get_or times net no_times) false (end_again times gate false)) true (end_again times gate true)))

  pub latest_same : (nets : List ℕ) → latest_of times' (map r nets) ≡ latest_of times nets
  latest_same [] = refl
  latest_same (net ∷ nets) =
      ap (λ (it : Times). max (max it.ends.zero it.ends.one - 1) (latest_of times' (map r nets))) (get_same net no_times)
      ∙ ap (max (max (get_or times net no_times).ends.zero (get_or times net no_times).ends.one - 1)) (latest_same nets)

-- ---- first times

picked_same : (r : ℕ → ℕ) (signals signals' : List Signal) (bound : ℕ) → ((n : ℕ) → n < bound → slice_get signals' (r n) ≡ slice_get signals n)
    → (inputs : List ℕ) → AllByRecursion (λ n. n < bound) inputs → filter_map (slice_get signals') (map r inputs) ≡ filter_map (slice_get signals) inputs
picked_same r signals signals' bound same [] lows = refl
picked_same r signals signals' bound same (n ∷ inputs) lows =
    rw (same n lows.0, picked_same r signals signals' bound same inputs lows.1) refl

module _ (this that : Numbered) (r : ℕ → ℕ) (renaming : IsRenaming this that r) (numbering : IsNumbering this) (admit : Admitted) (cube : List Trit)
    (signals signals' : List Signal) (are : AreEdges this admit cube signals) (are' : AreEdges that admit cube signals') where
  front : (n : ℕ) → n < first_output this → slice_get signals' n ≡ slice_get signals n
  front zero low = are'.low ∙ sym are.low
  front (suc zero) low = are'.high ∙ sym are.high
  front (suc (suc i)) low =
      let next : suc (suc i) ≡ 2 + i = omega arith in
      let few : i < length this.netlist.inputs = omega arith in
      let few' : i < length that.netlist.inputs = omega (arith, renaming.inputs, few) in
      subst (λ (n : ℕ). slice_get signals' n ≡ slice_get signals n) (sym next)
      (are'.inputs i few'
      ∙ ap (λ inputs. Some (input_at admit cube that.moments inputs i)) renaming.inputs
      ∙ ap (λ moments. Some (input_at admit cube moments (length this.netlist.inputs) i)) renaming.moments
      ∙ sym (are.inputs i few))

  driven_same : (n : ℕ) → ((k : ℕ) → k < n → slice_get signals' (r k) ≡ slice_get signals k) → IsDriven this n → slice_get signals' (r n) ≡ slice_get signals n
  driven_same n below driven =
      let place : ℕ = n - first_output this in
      let there : first_output this + place ≡ n = let d = driven.0 in omega arith in
      let here : slice_get this.gates place ≡ Some (driver this n) = slice_get-get_or this.gates place no_gate driven.1 in
      let lows : AllByRecursion (λ k. k < n) (driver this n).inputs =
      subst (λ (m : ℕ). AllByRecursion (λ k. k < m) (driver this n).inputs) there
      (recursion_from_All (λ k. k < first_output this + place) (driver this n).inputs (lower-at this numbering place (driver this n) here)) in
      are'.gates (r n) (renaming.driven n driven)
      ∙ ap (λ (gate : NumberedGate). Some (output_signal signals' gate)) (renaming.drivers n driven)
      ∙ ap (λ (picked : List Signal). Some (gate_signal (driver this n).kind (driver this n).delay picked)) (picked_same r signals signals' n below (driver this n).inputs lows)
      ∙ sym (are.gates n driven)

  upto : (bound n : ℕ) → n < bound → slice_get signals' (r n) ≡ slice_get signals n
  upto zero n low = absurd (omega arith)
  upto (suc bound) n low = elim (cases_lt n (first_output this)) [
    | inl early ↦ ap (slice_get signals') (renaming.fixed n early) ∙ front n early
    | inr late ↦ elim (cases_lt (n - first_output this) (length this.gates)) [
      | inl gate ↦ driven_same n (λ k less. upto bound k (omega (arith, less, low))) (late, gate)
      | inr past ↦
          (let high : first_output this + length this.gates ≤ n = omega (arith, late, past) in
          let over = renaming.past n high in
          slice_get_past signals' (r n) (omega (arith, are'.whole, renaming.inputs, renaming.gates, over))
          ∙ sym (slice_get_past signals n (omega (arith, are.whole, high))))
    ]
  ]

  pub signals_same : (n : ℕ) → slice_get signals' (r n) ≡ slice_get signals n
  signals_same n = upto (suc n) n (omega arith)

pub first_same : (this that : Numbered) (r : ℕ → ℕ) → IsRenaming this that r → IsNumbering this → IsNumbering that → (admit : Admitted) (cube : List Trit)
    → AreRenamed r (first_times this admit cube) (first_times that admit cube)
first_same this that r renaming numbering numbering' admit cube n =
    let one = are_first this numbering admit cube in
    let other = are_first that numbering' admit cube in
    ap (λ times. slice_get times (r n)) other.is
    ∙ slice_get-map times_from other.signals (r n)
    ∙ ap (option_map times_from) (signals_same this that r renaming numbering admit cube one.signals other.signals one.are other.are n)
    ∙ sym (slice_get-map times_from one.signals n)
    ∙ sym (ap (λ times. slice_get times n) one.is)
