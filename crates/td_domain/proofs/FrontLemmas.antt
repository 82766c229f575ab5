-- The signals of the first nets, net by net.
use Rattle.std.proofs.Common.{◌≡◌, ℕ, zero, suc, ◌+◌, ◌*◌, ◌<◌, ◌≤◌, ◌^◌, max, List, [], ◌∷◌, ◌++◌, length, refl, arith, Some, ap, ◌∙◌, ◌⊎◌, inl, inr, length-append}
use Rattle.std.specs.Prelude.{slice_get, filter_map}
use Rattle.std.specs.List.{All, AllByRecursion}
use Rattle.std.proofs.lemmas.Option.{slice_get_within, slice_get_cases}
use Rattle.std.proofs.lemmas.Bool.{cases_eq}
use Rattle.td_gates.specs.declared.primitives.Kind.{Kind}
use Rattle.td_gates.specs.declared.timing.Delay.{Delay}
use Rattle.td_gates.specs.Delays.{IsInRange}
use Rattle.td_circuit.specs.Numbering.{NumberedGate, Numbered, first_output, IsNumbering}
use Rattle.td_circuit.proofs.Nets.{lower-at, few_gates, gate_at}
use Rattle.td_domain.specs.declared.cubes.Trit.{Trit}
use Rattle.td_domain.specs.Functions.{Functions}
use Rattle.td_domain.specs.FirstSignals.{AreFirstSignals}
use Rattle.td_domain.proofs.Lists.{slice_get-before, slice_get-seam, filter_map-same, weaker}
use Rattle.std.proofs.lemmas.List.Elements.{recursion_from_All, All-from_recursion}

-- a gate reads few nets
pub terminals-at : (circuit : Numbered) (numbering : IsNumbering circuit) (place : ℕ) (gate : NumberedGate)
    → slice_get circuit.gates place ≡ Some gate → length gate.inputs ≤ 1024
terminals-at circuit numbering place gate stands =
    let found = gate_at circuit numbering place gate stands in
    omega (arith, found.3.inputs.count, (numbering.well_formed.gates found.0 found.2).few)

-- its delays are in range
pub in_range-at : (circuit : Numbered) (numbering : IsNumbering circuit) (place : ℕ) (gate : NumberedGate)
    → slice_get circuit.gates place ≡ Some gate → IsInRange gate.delay
in_range-at circuit numbering place gate stands =
    let found = gate_at circuit numbering place gate stands in
    rw found.3.delay (numbering.well_formed.gates found.0 found.2).delay

pub fast : (circuit : Numbered) (numbering : IsNumbering circuit) (place : ℕ) (gate : NumberedGate)
    → slice_get circuit.gates place ≡ Some gate → max gate.delay.rise gate.delay.fall ≤ 10 ^ 9
fast circuit numbering place gate stands =
    let fits = in_range-at circuit numbering place gate stands in
    omega (arith, fits.greatest_rise, fits.greatest_fall)

module _ {Sig : Type 0} (functions : Functions Sig) (reach : Sig → ℕ) (circuit : Numbered) (numbering : IsNumbering circuit) (cube : List Trit) where
  -- a read of a longer list
  read : (front : List Sig) (x : Sig) (n : ℕ) (signal : Sig) → slice_get (front ++ x ∷ []) n ≡ Some signal
      → (slice_get front n ≡ Some signal) ⊎ ((n ≡ length front) × (x ≡ signal))
  read [] x zero signal h = inr (refl, cc)
  read [] x (suc n) signal h = cc
  read (y ∷ front) x zero signal h = inl h
  read (y ∷ front) x (suc n) signal h = elim (read front x n signal h) [
    | inl there ↦ inl there
    | inr here ↦ inr (omega (arith, here.0), here.1)
  ]

  -- what is right for the next net
  abbrev pub IsNext : List Sig → Sig → Type 0
  IsNext front x =
      ((i : ℕ) (first second : Trit) (moment : ℕ) → i < length circuit.netlist.inputs → 2 + i ≡ length front
      → slice_get cube (2 * i) ≡ Some first → slice_get cube (2 * i + 1) ≡ Some second → slice_get circuit.moments i ≡ Some moment
      → x ≡ functions.input_of first second moment)
      × ((place : ℕ) (gate : NumberedGate) → slice_get circuit.gates place ≡ Some gate → first_output circuit + place ≡ length front
      → x ≡ functions.gate_of gate.kind gate.delay (filter_map (slice_get front) gate.inputs))
      × (reach x ≤ (length front + 1) * 10 ^ 9)

  pub grown : (front : List Sig) (x : Sig) → 2 ≤ length front → AreFirstSignals functions reach circuit cube front
      → IsNext front x → AreFirstSignals functions reach circuit cube (front ++ x ∷ [])
  grown front x long is_front next = record {
    low = slice_get-before front (x ∷ []) 0 (omega arith) ∙ is_front.low;
    high = slice_get-before front (x ∷ []) 1 (omega arith) ∙ is_front.high;
    inputs = λ i first second moment few within at_first at_second at_moment. elim (cases_eq (2 + i) (length front)) [
      | inl now ↦ slice_get-seam front x (2 + i) now ∙ ap (λ y. Some y) (next.0 i first second moment few now at_first at_second at_moment)
      | inr other ↦
          let old : 2 + i < length front = omega (arith, length-append front (x ∷ [])) in
          slice_get-before front (x ∷ []) (2 + i) old ∙ is_front.inputs i first second moment few old at_first at_second at_moment
    ];
    gates = λ place gate stands within.
        let lower : AllByRecursion (λ net. slice_get (front ++ x ∷ []) net ≡ slice_get front net) gate.inputs =
        weaker _ _ (λ net below. slice_get-before front (x ∷ []) net (omega (arith, length-append front (x ∷ []))))
        gate.inputs (recursion_from_All (λ net. net < first_output circuit + place) gate.inputs (lower-at circuit numbering place gate stands)) in
        let same : filter_map (slice_get (front ++ x ∷ [])) gate.inputs ≡ filter_map (slice_get front) gate.inputs =
        filter_map-same _ _ gate.inputs lower in
        rw same (elim (cases_eq (first_output circuit + place) (length front)) [
          | inl now ↦ slice_get-seam front x _ now ∙ ap (λ y. Some y) (next.1 place gate stands now)
          | inr other ↦
              let old : first_output circuit + place < length front = omega (arith, length-append front (x ∷ [])) in
              slice_get-before front (x ∷ []) _ old ∙ is_front.gates place gate stands old
        ]);
    reaches = λ net signal stands. elim (read front x net signal stands) [
      | inl there ↦ is_front.reaches net signal there
      | inr here ↦ rw (← here.1, here.0) next.2
    ];
  }

  picked_reach : (front : List Sig) (n : ℕ) (nets : List ℕ)
      → ((net : ℕ) (signal : Sig) → slice_get front net ≡ Some signal → reach signal ≤ (net + 1) * 10 ^ 9)
      → AllByRecursion (λ net. net < n) nets
      → AllByRecursion (λ signal. reach signal ≤ n * 10 ^ 9) (filter_map (slice_get front) nets)
  picked_reach front n [] reaches below = tt
  picked_reach front n (net ∷ nets) reaches below =
      let rest = picked_reach front n nets reaches below.1 in
      elim (slice_get_cases front net).1 [
        | inl there ↦
            let here : reach there.0 ≤ n * 10 ^ 9 = omega (arith, reaches net there.0 there.2, below.0) in
            rw there.2 (here, rest)
        | inr past ↦ rw past.1 rest
      ]

  -- after the signal of an input
  pub grown_input : ((first second : Trit) (moment : ℕ) → moment ≤ 10 ^ 9 → reach (functions.input_of first second moment) ≤ 10 ^ 9)
      → (front after : List Sig) (x : Sig) (i : ℕ) (first second : Trit) (moment : ℕ)
      → i < length circuit.netlist.inputs → length front ≡ 2 + i → AreFirstSignals functions reach circuit cube front
      → slice_get cube (2 * i) ≡ Some first → slice_get cube (2 * i + 1) ≡ Some second
      → slice_get circuit.moments i ≡ Some moment → moment ≤ 10 ^ 9
      → x ≡ functions.input_of first second moment → after ≡ front ++ x ∷ []
      → AreFirstSignals functions reach circuit cube after
  grown_input law front after x i first second moment few count is_front at_first at_second at_moment early is is_after = rw is_after (
      grown front x (omega arith) is_front (
        (λ j one other own fewer here at_one at_other at_own.
            let same : j ≡ i = omega arith in
            let as_one : slice_get cube (2 * i) ≡ Some one = rw same at at_one in
            let as_other : slice_get cube (2 * i + 1) ≡ Some other = rw same at at_other in
            let ones : first ≡ one = cc in
            let others : second ≡ other = cc in
            let as_own : slice_get circuit.moments i ≡ Some own = rw same at at_own in
            let owns : moment ≡ own = cc in
            rw (← ones, ← others, ← owns) is),
        (λ place gate stands here. absurd (omega arith)),
        (let small : reach x ≤ 10 ^ 9 = rw is (law first second moment early) in omega arith),
      ))

  -- the signals that a gate reads reach no further than the nets before it
  pub reads_within : (front : List Sig) (place : ℕ) (gate : NumberedGate) → slice_get circuit.gates place ≡ Some gate
      → length front ≡ first_output circuit + place → AreFirstSignals functions reach circuit cube front
      → AllByRecursion (λ signal. reach signal ≤ (first_output circuit + place) * 10 ^ 9) (filter_map (slice_get front) gate.inputs)
  reads_within front place gate stands count is_front =
      picked_reach front (first_output circuit + place) gate.inputs is_front.reaches
      (recursion_from_All (λ net. net < first_output circuit + place) gate.inputs (lower-at circuit numbering place gate stands))

  pub reads_small : (front : List Sig) (place : ℕ) (gate : NumberedGate) → slice_get circuit.gates place ≡ Some gate
      → length front ≡ first_output circuit + place → AreFirstSignals functions reach circuit cube front
      → All (λ signal. reach signal + max gate.delay.rise gate.delay.fall < 10 ^ 15) (filter_map (slice_get front) gate.inputs)
  reads_small front place gate stands count is_front =
      All-from_recursion (λ signal. reach signal + max gate.delay.rise gate.delay.fall < 10 ^ 15) _
      (weaker _ _ (λ signal small.
      let few : max gate.delay.rise gate.delay.fall ≤ 10 ^ 9 = fast circuit numbering place gate stands in
      let within : place < length circuit.gates = slice_get_within circuit.gates place gate stands in
      omega (arith, few_gates circuit numbering, numbering.well_formed.few_inputs)) _ (reads_within front place gate stands count is_front))

  -- after the signal of a gate's output
  pub grown_gate : ((kind : Kind) (delay : Delay) (signals : List Sig) (moment : ℕ) → All (λ signal. reach signal ≤ moment) signals
      → reach (functions.gate_of kind delay signals) ≤ moment + max delay.rise delay.fall)
      → (front after : List Sig) (x : Sig) (place : ℕ) (gate : NumberedGate)
      → slice_get circuit.gates place ≡ Some gate → length front ≡ first_output circuit + place
      → AreFirstSignals functions reach circuit cube front
      → x ≡ functions.gate_of gate.kind gate.delay (filter_map (slice_get front) gate.inputs) → after ≡ front ++ x ∷ []
      → AreFirstSignals functions reach circuit cube after
  grown_gate law front after x place gate stands count is_front is is_after = rw is_after (
      grown front x (omega arith) is_front (
        (λ i first second moment few here at_first at_second at_moment. absurd (omega arith)),
        (λ other another others here.
            let same : other ≡ place = omega arith in
            let as_other : slice_get circuit.gates place ≡ Some another = rw same at others in
            let gates : gate ≡ another = cc in
            rw (← gates) is),
        (let few : max gate.delay.rise gate.delay.fall ≤ 10 ^ 9 = fast circuit numbering place gate stands in
            let reached : reach x ≤ (first_output circuit + place) * 10 ^ 9 + max gate.delay.rise gate.delay.fall =
            rw is (law gate.kind gate.delay _ _ (All-from_recursion _ _ (reads_within front place gate stands count is_front))) in
            omega arith),
      ))
