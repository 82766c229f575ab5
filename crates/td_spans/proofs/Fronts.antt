-- Fronts: how far the signals of the first nets reach.
use Rattle.std.proofs.Common.{◌≡◌, ℕ, zero, suc, ◌+◌, ◌*◌, ◌<◌, ◌≤◌, ◌^◌, max, Bool, true, false, List, [], ◌∷◌, ◌++◌, length, map, get_or, drop, refl, arith, ap, sym, ◌∙◌, subst, inl, inr, Option, Some, None}
use Rattle.std.specs.Prelude.{slice_get, filter_map}
use Rattle.std.specs.List.{All, AllByRecursion}
use Rattle.std.proofs.lemmas.Bool.{cases_lt}
use Rattle.std.proofs.lemmas.List.{length-append}
use Rattle.std.proofs.lemmas.Option.{slice_get_within, slice_get_cases}
use Rattle.std.proofs.lemmas.List.Elements.{recursion_from_All, All-from_recursion}
use Rattle.td_gates.proofs.Places.{some-same, slice_get-push_cases, slice_get-map_some, get-slice_get}
use Rattle.td_circuit.specs.declared.circuit.Gate.{Gate}
use Rattle.td_circuit.specs.Numbering.{NumberedGate, Numbered, first_output, IsNumbering}
use Rattle.td_circuit.specs.Views.{gate_of}
use Rattle.td_circuit.proofs.Nets.{lower-at, few_gates}
use Rattle.td_domain.specs.declared.cubes.Trit.{Trit}
use Rattle.td_domain.specs.Admits.{Admitted}
use Rattle.td_domain.proofs.Lists.{weaker}
use Rattle.td_domain.proofs.FrontLemmas.{fast}
use Rattle.td_edges.specs.declared.signals.Signal.{Signal}
use Rattle.td_edges.specs.Coverage.{span_reach}
use Rattle.td_edges.specs.EdgeSignals.{constant_signal}
use Rattle.td_edges.specs.EdgeLaws.{reach_input, reach_gate}
use Rattle.td_spans.specs.Changing.{is_still}
use Rattle.td_spans.specs.Signals.{signal_by, input_at, inputs_to, output_signal, gates_from}

-- each signal reaches no further than the nets before it allow
abbrev pub AreNear : List Signal → Type 0
AreNear signals = (net : ℕ) (signal : Signal) → slice_get signals net ≡ Some signal → span_reach signal.changes ≤ (net + 1) * 10 ^ 9

near_more : (signals : List Signal) (made : Signal) → AreNear signals → span_reach made.changes ≤ (length signals + 1) * 10 ^ 9 → AreNear (signals ++ made ∷ [])
near_more signals made near small net signal at = elim (slice_get-push_cases signals made net signal at) [
  | inl old ↦ near net signal old
  | inr last ↦ subst (λ (s : Signal). span_reach s.changes ≤ (net + 1) * 10 ^ 9) last.1
      (subst (λ (n : ℕ). span_reach made.changes ≤ (n + 1) * 10 ^ 9) (sym last.0) small)
]

get_or-past : (xs : List ℕ) (i d : ℕ) → length xs ≤ i → get_or xs i d ≡ d
get_or-past [] i d past = refl
get_or-past (x ∷ xs) zero d past = absurd (omega arith)
get_or-past (x ∷ xs) (suc i) d past = get_or-past xs i d (omega arith)

moment_small : (moments : List ℕ) (i : ℕ) → All (λ moment. moment ≤ 1000000000) moments → get_or moments i 0 ≤ 10 ^ 9
moment_small moments i all = elim (cases_lt i (length moments)) [
  | inl low ↦ (let each : get_or moments i 0 ≤ 1000000000 = all i 0 low in omega (arith, each))
  | inr past ↦ (let none = get_or-past moments i 0 past in omega (arith, none))
]

small_input : (still : Bool) (o u : Option Trit) (moment : ℕ) → moment ≤ 10 ^ 9 → span_reach (signal_by still o u moment).changes ≤ 10 ^ 9
small_input true (Some p) (Some q) moment few = omega arith
small_input true (Some p) None moment few = omega arith
small_input true None (Some q) moment few = omega arith
small_input true None None moment few = omega arith
small_input false (Some p) (Some q) moment few = reach_input p q moment few
small_input false (Some p) None moment few = omega arith
small_input false None (Some q) moment few = omega arith
small_input false None None moment few = omega arith

near_constants : AreNear (constant_signal false ∷ constant_signal true ∷ [])
near_constants zero signal at = (let is : span_reach signal.changes ≡ 0 = ap (λ (s : Signal). span_reach s.changes) (sym (some-same (constant_signal false) signal at)) in omega (arith, is))
near_constants (suc zero) signal at = (let is : span_reach signal.changes ≡ 0 = ap (λ (s : Signal). span_reach s.changes) (sym (some-same (constant_signal true) signal at)) in omega (arith, is))
near_constants (suc (suc net)) signal at = cc

-- The signals of the inputs are near.
pub near_inputs : (admit : Admitted) (cube : List Trit) (moments : List ℕ) (inputs n : ℕ) → All (λ moment. moment ≤ 1000000000) moments
    → AreNear (inputs_to admit cube moments inputs n)
near_inputs admit cube moments inputs zero few = near_constants
near_inputs admit cube moments inputs (suc n) few =
    let small = small_input (is_still admit cube inputs n) (slice_get cube (2 * n)) (slice_get cube (2 * n + 1)) (get_or moments n 0) (moment_small moments n few) in
    near_more (inputs_to admit cube moments inputs n) (input_at admit cube moments inputs n) (near_inputs admit cube moments inputs n few) (omega (arith, small))

drop_at : (gates : List NumberedGate) (place : ℕ) (gate : NumberedGate) → slice_get gates place ≡ Some gate → drop place gates ≡ gate ∷ drop (place + 1) gates
drop_at [] place gate at = cc
drop_at (other ∷ gates) zero gate at = let same : other ≡ gate = cc in ap (λ (g : NumberedGate). g ∷ gates) same
drop_at (other ∷ gates) (suc place) gate at =
    let next : suc place + 1 ≡ suc (place + 1) = omega arith in
    rw next (drop_at gates place gate at)

picked_near : (signals : List Signal) (n : ℕ) (nets : List ℕ) → AreNear signals → AllByRecursion (λ net. net < n) nets
    → AllByRecursion (λ (signal : Signal). span_reach signal.changes ≤ n * 10 ^ 9) (filter_map (slice_get signals) nets)
picked_near signals n [] near below = tt
picked_near signals n (net ∷ nets) near below =
    let rest = picked_near signals n nets near below.1 in
    elim (slice_get_cases signals net).1 [
      | inl there ↦
          let here : span_reach (there.0).changes ≤ n * 10 ^ 9 = omega (arith, near net there.0 there.2, below.0) in
          rw there.2 (here, rest)
      | inr past ↦ rw past.1 rest
    ]

-- the gate at a place
pub gate_stands : (gates : List Gate) (numbered : List NumberedGate) (place : ℕ) (gate : Gate) → map gate_of gates ≡ numbered → place < length gates
    → gate ≡ get_or gates place gate → slice_get numbered place ≡ Some (gate_of gate)
gate_stands gates numbered place gate same within is =
    rw (← same) (slice_get-map_some gate_of gates place gate (get-slice_get gates place gate gate within (sym is)))

module _ (circuit : Numbered) (numbering : IsNumbering circuit) (signals : List Signal) (place : ℕ) (gate : NumberedGate)
    (stands : slice_get circuit.gates place ≡ Some gate) (near : AreNear signals) where
  reads_near : AllByRecursion (λ (signal : Signal). span_reach signal.changes ≤ (first_output circuit + place) * 10 ^ 9) (filter_map (slice_get signals) gate.inputs)
  reads_near = picked_near signals (first_output circuit + place) gate.inputs near
      (recursion_from_All (λ net. net < first_output circuit + place) gate.inputs (lower-at circuit numbering place gate stands))

  -- The signals that a gate reads reach no further than its own may.
  pub reads_small : All (λ (signal : Signal). span_reach signal.changes + max gate.delay.rise gate.delay.fall < 10 ^ 15) (filter_map (slice_get signals) gate.inputs)
  reads_small =
      All-from_recursion (λ (signal : Signal). span_reach signal.changes + max gate.delay.rise gate.delay.fall < 10 ^ 15) _
      (weaker _ _ (λ signal small.
      let few : max gate.delay.rise gate.delay.fall ≤ 10 ^ 9 = fast circuit numbering place gate stands in
      let within : place < length circuit.gates = slice_get_within circuit.gates place gate stands in
      omega (arith, few_gates circuit numbering, numbering.well_formed.few_inputs)) _ reads_near)

  -- One gate more.
  pub gates_kept : (after initial : List Signal) (made : Signal) → length signals ≡ first_output circuit + place → made ≡ output_signal signals gate
      → after ≡ signals ++ made ∷ [] → gates_from signals (drop place circuit.gates) ≡ gates_from initial circuit.gates
      → (gates_from after (drop (place + 1) circuit.gates) ≡ gates_from initial circuit.gates) × (length after ≡ first_output circuit + (place + 1)) × AreNear after
  gates_kept after initial made count is is_after so =
      let few : max gate.delay.rise gate.delay.fall ≤ 10 ^ 9 = fast circuit numbering place gate stands in
      let reached : span_reach (output_signal signals gate).changes ≤ (first_output circuit + place) * 10 ^ 9 + max gate.delay.rise gate.delay.fall =
      reach_gate gate.kind gate.delay (filter_map (slice_get signals) gate.inputs) ((first_output circuit + place) * 10 ^ 9)
      (All-from_recursion (λ (signal : Signal). span_reach signal.changes ≤ (first_output circuit + place) * 10 ^ 9) _ reads_near) in
      let all : after ≡ signals ++ output_signal signals gate ∷ [] = is_after ∙ ap (λ (s : Signal). signals ++ s ∷ []) is in (
        ap (λ (ss : List Signal). gates_from ss (drop (place + 1) circuit.gates)) all ∙ sym (ap (gates_from signals) (drop_at circuit.gates place gate stands)) ∙ so,
        (let long = length-append signals (made ∷ []) in let is_long = ap length is_after in omega (arith, long, is_long, count)),
        subst AreNear (sym all) (near_more signals (output_signal signals gate) near (omega (arith, reached, few, count))),
      )
