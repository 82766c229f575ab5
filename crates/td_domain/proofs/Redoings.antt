-- Evaluating some gates anew.
use Rattle.std.proofs.Common.{◌≡◌, ◌≢◌, ℕ, zero, suc, ◌+◌, ◌*◌, ◌<◌, ◌≤◌, ◌^◌, max, List, [], ◌∷◌, ◌++◌, length, set, take, get_or, ◌-◌, ◌/◌, refl, arith, ◌⊎◌, inl, inr, sym, ap, ◌∙◌, Some}
use Rattle.std.specs.Prelude.{slice_get, filter_map}
use Rattle.std.specs.List.{All, AllByRecursion, Contains}
use Rattle.std.proofs.lemmas.Bool.{cases_eq}
use Rattle.std.proofs.lemmas.Option.{slice_get_within, slice_get_cases}
use Rattle.std.proofs.lemmas.List.{length-set}
use Rattle.std.proofs.lemmas.List.Elements.{recursion_from_All, All-from_recursion, Contains-get_or}
use Rattle.td_gates.specs.declared.primitives.Kind.{Kind}
use Rattle.td_gates.specs.declared.timing.Delay.{Delay}
use Rattle.td_gates.proofs.Places.{some-same, slice_get-set_same, slice_get-set_cases, slice_get-set_other, All-from_contains, Contains-slice_get, slice_get-Contains, slice_get-within, get-slice_get, slice_get-take, take_push}
use Rattle.td_circuit.specs.Numbering.{NumberedGate, Numbered, nets, first_output, IsNumbering}
use Rattle.td_circuit.proofs.Nets.{lower-at, length-nets, few_gates}
use Rattle.td_domain.specs.declared.cubes.Trit.{Trit}
use Rattle.td_domain.specs.declared.cubes.Trit.TheVariants.{Free}
use Rattle.td_domain.specs.Functions.{Functions}
use Rattle.td_domain.specs.Sheets.{IsPage}
use Rattle.td_domain.specs.FirstSignals.{AreFirstSignals}
use Rattle.td_domain.specs.Cones.{ReadsNet, IsCone}
use Rattle.td_domain.specs.Redoing.{AreNear, CanRedo, AreAllRedone}
use Rattle.td_domain.proofs.Lists.{filter_map-same, weaker}
use Rattle.td_domain.proofs.FrontLemmas.{fast}
use Rattle.td_domain.proofs.Coning.{has-push, has-old, has-new}

not-there : (y x : ℕ) (xs : List ℕ) → y ≢ x → (¬ Contains xs x) → (k : ℕ) → slice_get (y ∷ xs) k ≡ Some x → ⊥
not-there y x xs other none zero at = other (some-same y x at)
not-there y x xs other none (suc k) at = none (slice_get-Contains xs k x at)

-- a list has a number or not
pub has_or_not : (xs : List ℕ) (x : ℕ) → Contains xs x ⊎ (¬ Contains xs x)
has_or_not [] x = inr (λ has. absurd (omega (arith, has.1)))
has_or_not (y ∷ xs) x = elim (cases_eq y x) [
  | inl same ↦ inl (slice_get-Contains (y ∷ xs) 0 x (ap (λ n. Some n) same))
  | inr other ↦ elim (has_or_not xs x) [
    | inl has ↦ inl (let here = Contains-slice_get xs x has in slice_get-Contains (y ∷ xs) (suc here.0) x here.1)
    | inr none ↦ inr (λ has. (let here = Contains-slice_get (y ∷ xs) x has in not-there y x xs other none here.0 here.1))
  ]
]

module _ {Sig : Type 0} (reach : Sig → ℕ) where
  -- the signals that a gate reads reach no further than the nets before it
  near-picks : (signals : List Sig) (n : ℕ) (inputs : List ℕ) → AreNear reach signals → AllByRecursion (λ net. net < n) inputs
      → AllByRecursion (λ signal. reach signal ≤ n * 10 ^ 9) (filter_map (slice_get signals) inputs)
  near-picks signals n [] near below = tt
  near-picks signals n (net ∷ inputs) near below =
      let rest = near-picks signals n inputs near below.1 in
      elim (slice_get_cases signals net).1 [
        | inl there ↦
            let here : reach there.0 ≤ n * 10 ^ 9 = omega (arith, near net there.0 there.2, below.0) in
            rw there.2 (here, rest)
        | inr past ↦ rw past.1 rest
      ]

  -- one more signal
  near-set : (signals : List Sig) (n : ℕ) (x : Sig) → AreNear reach signals → reach x ≤ (n + 1) * 10 ^ 9 → AreNear reach (set signals n x)
  near-set signals n x near small net signal at = elim (slice_get-set_cases signals n x net signal at) [
    | inl here ↦ rw (here.0, ← here.1) small
    | inr old ↦ near net signal old.1
  ]

-- signals at lower nets stay
lower-stay : {Sig : Type 0} (signals : List Sig) (n m : ℕ) (x : Sig) (inputs : List ℕ) → m ≤ n → AllByRecursion (λ net. net < m) inputs
    → filter_map (slice_get (set signals n x)) inputs ≡ filter_map (slice_get signals) inputs
lower-stay signals n m x inputs low below = filter_map-same (slice_get (set signals n x)) (slice_get signals) inputs
    (weaker _ _ (λ net less. slice_get-set_other signals n x net (λ e. absurd (omega arith))) inputs below)

module _ {Sig : Type 0} (functions : Functions Sig) (reach : Sig → ℕ) (circuit : Numbered) (numbering : IsNumbering circuit) where
  reads-below : (place : ℕ) (gate : NumberedGate) → slice_get circuit.gates place ≡ Some gate
      → AllByRecursion (λ net. net < first_output circuit + place) gate.inputs
  reads-below place gate stands = recursion_from_All (λ net. net < first_output circuit + place) gate.inputs (lower-at circuit numbering place gate stands)

  -- what a gate reads is far from the limit
  pub reads-small : (signals : List Sig) (place : ℕ) (gate : NumberedGate) → slice_get circuit.gates place ≡ Some gate
      → length signals ≡ length (nets circuit) → AreNear reach signals
      → All (λ signal. reach signal + max gate.delay.rise gate.delay.fall < 10 ^ 15) (filter_map (slice_get signals) gate.inputs)
  reads-small signals place gate stands count near =
      All-from_recursion (λ signal. reach signal + max gate.delay.rise gate.delay.fall < 10 ^ 15) _
      (weaker _ _ (λ signal small.
      let few : max gate.delay.rise gate.delay.fall ≤ 10 ^ 9 = fast circuit numbering place gate stands in
      let within : place < length circuit.gates = slice_get_within circuit.gates place gate stands in
      omega (arith, few_gates circuit numbering, numbering.well_formed.few_inputs)) _
      (near-picks reach signals (first_output circuit + place) gate.inputs near (reads-below place gate stands)))

  -- nothing is done yet
  pub redo-none : (signals : List Sig) → AreNear reach signals → AreAllRedone functions reach circuit [] signals signals
  redo-none signals near = record {
    count = refl;
    near = near;
    others = λ net none. refl;
    each = λ place gate stands has. absurd (omega (arith, has.1));
  }

  -- one more gate
  pub redo-step : ((kind : Kind) (delay : Delay) (signals : List Sig) (moment : ℕ) → All (λ signal. reach signal ≤ moment) signals
      → reach (functions.gate_of kind delay signals) ≤ moment + max delay.rise delay.fall)
      → (done : List ℕ) (base signals : List Sig) (place : ℕ) (gate : NumberedGate) (x : Sig)
      → slice_get circuit.gates place ≡ Some gate → length base ≡ length (nets circuit)
      → ((output : ℕ) → Contains done output → output < first_output circuit + place)
      → AreAllRedone functions reach circuit done base signals
      → x ≡ functions.gate_of gate.kind gate.delay (filter_map (slice_get signals) gate.inputs)
      → AreAllRedone functions reach circuit (done ++ (first_output circuit + place) ∷ []) base (set signals (first_output circuit + place) x)
  redo-step law done base signals place gate x stands count before are is = record {
    count = length-set signals (first_output circuit + place) x ∙ are.count;
    near = near-set reach signals (first_output circuit + place) x are.near small;
    others = λ net none.
        slice_get-set_other signals (first_output circuit + place) x net
        (λ e. none (rw e (has-new done (first_output circuit + place))))
        ∙ are.others net (λ has. none (has-old done (first_output circuit + place) net has));
    each = λ other another others has. elim (has-push done (first_output circuit + place) (first_output circuit + other) has) [
      | inl old ↦
          let less : first_output circuit + other < first_output circuit + place = before (first_output circuit + other) old in
          slice_get-set_other signals (first_output circuit + place) x (first_output circuit + other) (λ e. absurd (omega arith))
          ∙ are.each other another others old
          ∙ ap (λ picks. Some (functions.gate_of another.kind another.delay picks))
          (sym (lower-stay signals (first_output circuit + place) (first_output circuit + other) x another.inputs (omega arith) (reads-below other another others)))
      | inr new ↦
          let here : other ≡ place = omega arith in
          let same : gate ≡ another = some-same gate another (sym stands ∙ ap (λ n. slice_get circuit.gates n) (sym here) ∙ others) in
          ap (λ n. slice_get (set signals (first_output circuit + place) x) n) new
          ∙ slice_get-set_same signals (first_output circuit + place) x within
          ∙ ap (λ y. Some y) is
          ∙ ap (λ picks. Some (functions.gate_of gate.kind gate.delay picks))
          (sym (lower-stay signals (first_output circuit + place) (first_output circuit + place) x gate.inputs (omega arith) (reads-below place gate stands)))
          ∙ ap (λ (g : NumberedGate). Some (functions.gate_of g.kind g.delay (filter_map (slice_get (set signals (first_output circuit + place) x)) g.inputs))) same
    ];
  }
    where
      within : first_output circuit + place < length signals
      within = omega (arith, are.count, count, length-nets circuit numbering, slice_get_within circuit.gates place gate stands)

      small : reach x ≤ (first_output circuit + place + 1) * 10 ^ 9
      small =
          let few : max gate.delay.rise gate.delay.fall ≤ 10 ^ 9 = fast circuit numbering place gate stands in
          let reached : reach x ≤ (first_output circuit + place) * 10 ^ 9 + max gate.delay.rise gate.delay.fall =
          rw is (law gate.kind gate.delay _ _ (All-from_recursion _ _
          (near-picks reach signals (first_output circuit + place) gate.inputs are.near (reads-below place gate stands)))) in
          omega arith

  -- the outputs that an input reaches can be evaluated anew
  pub can-redo : (net : ℕ) (cone : List ℕ) (signals : List Sig) → IsCone circuit net cone → length signals ≡ length (nets circuit)
      → AreNear reach signals → CanRedo reach circuit cone signals
  can-redo net cone signals is count near = record {
    count = count;
    near = near;
    rising = is.rising;
    gates = λ output has. (let it = is.no_others output has in (it.place, it.numbered, it.before));
  }

  -- the place of the gate with the next output
  pub numbered : (cone : List ℕ) (base : List Sig) (j first : ℕ) → CanRedo reach circuit cone base → j < length cone
      → first ≡ first_output circuit
      → (first ≤ get_or cone j 0) × (get_or cone j 0 - first < length circuit.gates)
      × (first_output circuit + (get_or cone j 0 - first) ≡ get_or cone j 0)
  numbered cone base j first can less count =
      let it = can.gates (get_or cone j 0) (Contains-get_or cone j 0 less) in
      (omega (arith, it.1), omega (arith, it.1, it.2), omega (arith, it.1))

  -- one more output of the cone
  pub redo-next : ((kind : Kind) (delay : Delay) (signals : List Sig) (moment : ℕ) → All (λ signal. reach signal ≤ moment) signals
      → reach (functions.gate_of kind delay signals) ≤ moment + max delay.rise delay.fall)
      → (cone : List ℕ) (j first : ℕ) (base signals after : List Sig) (gate : NumberedGate) (x : Sig)
      → CanRedo reach circuit cone base → j < length cone → first ≡ first_output circuit
      → slice_get circuit.gates (get_or cone j 0 - first) ≡ Some gate
      → AreAllRedone functions reach circuit (take j cone) base signals
      → x ≡ functions.gate_of gate.kind gate.delay (filter_map (slice_get signals) gate.inputs)
      → after ≡ set signals (get_or cone j 0) x
      → AreAllRedone functions reach circuit (take (j + 1) cone) base after
  redo-next law cone j first base signals after gate x can less count stands are is after_is =
      let place = numbered cone base j first can less count in
      let there : slice_get cone j ≡ Some (get_or cone j 0) = get-slice_get cone j 0 (get_or cone j 0) less refl in
      let next : j + 1 ≡ suc j = omega arith in
      let before : (output : ℕ) → Contains (take j cone) output → output < first_output circuit + (get_or cone j 0 - first) = λ output has. (
      let here = Contains-slice_get (take j cone) output has in
      let early = slice_get-take cone j here.0 output here.1 in
      omega (arith, can.rising here.0 j output (get_or cone j 0) early.0 early.1 there, place.2)) in
      let step = redo-step law (take j cone) base signals (get_or cone j 0 - first) gate x stands can.count before are is in
      rw (after_is, next, take_push cone j (get_or cone j 0) there) (rw place.2 at step)

  -- the same, where the gate is given by its place
  pub redo-next-at : ((kind : Kind) (delay : Delay) (signals : List Sig) (moment : ℕ) → All (λ signal. reach signal ≤ moment) signals
      → reach (functions.gate_of kind delay signals) ≤ moment + max delay.rise delay.fall)
      → (cone : List ℕ) (j first : ℕ) (base signals after : List Sig)
      → CanRedo reach circuit cone base → j < length cone → first ≡ first_output circuit
      → AreAllRedone functions reach circuit (take j cone) base signals
      → ((gate : NumberedGate) → slice_get circuit.gates (get_or cone j 0 - first) ≡ Some gate
      → after ≡ set signals (first_output circuit + (get_or cone j 0 - first)) (functions.gate_of gate.kind gate.delay (filter_map (slice_get signals) gate.inputs)))
      → AreAllRedone functions reach circuit (take (j + 1) cone) base after
  redo-next-at law cone j first base signals after can less count are is =
      let place = numbered cone base j first can less count in
      let it = slice_get-within circuit.gates (get_or cone j 0 - first) place.1 in
      redo-next law cone j first base signals after it.0
      (functions.gate_of it.0.kind it.0.delay (filter_map (slice_get signals) it.0.inputs))
      can less count it.1 are refl
      (is it.0 it.1 ∙ ap (λ n. set signals n (functions.gate_of it.0.kind it.0.delay (filter_map (slice_get signals) it.0.inputs))) place.2)

  -- the signals with the input's own
  pub near-input : ((first second : Trit) (moment : ℕ) → moment ≤ 10 ^ 9 → reach (functions.input_of first second moment) ≤ 10 ^ 9)
      → (signals : List Sig) (input : ℕ) (first second : Trit) (moment : ℕ) (x : Sig)
      → moment ≤ 10 ^ 9 → x ≡ functions.input_of first second moment → AreNear reach signals → AreNear reach (set signals (2 + input) x)
  near-input law signals input first second moment x early is near =
      near-set reach signals (2 + input) x near (let small : reach x ≤ 10 ^ 9 = rw is (law first second moment early) in omega arith)

  -- where the input and all that it reaches are done
  module _ (wide cube : List Trit) (input : ℕ) (first second : Trit) (moment : ℕ) (x : Sig) (old new : List Sig) (cone : List ℕ)
      (early : input < length circuit.netlist.inputs)
      (at_first : slice_get cube (2 * input) ≡ Some first) (at_second : slice_get cube (2 * input + 1) ≡ Some second)
      (at_moment : slice_get circuit.moments input ≡ Some moment)
      (agree : (position : ℕ) → position ≢ 2 * input → position ≢ 2 * input + 1 → slice_get wide position ≡ slice_get cube position)
      (count : length old ≡ length (nets circuit)) (is_front : AreFirstSignals functions reach circuit wide old)
      (is_cone : IsCone circuit (2 + input) cone) (is : x ≡ functions.input_of first second moment)
      (are : AreAllRedone functions reach circuit cone (set old (2 + input) x) new) where
    not_reached : (net : ℕ) → net < first_output circuit → ¬ Contains cone net
    not_reached net low has = let it = is_cone.no_others net has in omega (arith, it.numbered)

    stays : (net : ℕ) → (¬ Contains cone net) → net ≢ 2 + input → slice_get new net ≡ slice_get old net
    stays net none other = are.others net none ∙ slice_get-set_other old (2 + input) x net other

    all : length old ≡ first_output circuit + length circuit.gates
    all = count ∙ length-nets circuit numbering

    at_inputs : (i : ℕ) (one another : Trit) (own : ℕ) → i < length circuit.netlist.inputs → slice_get cube (2 * i) ≡ Some one
        → slice_get cube (2 * i + 1) ≡ Some another → slice_get circuit.moments i ≡ Some own
        → slice_get new (2 + i) ≡ Some (functions.input_of one another own)
    at_inputs i one another own few at_one at_another at_own = elim (cases_eq i input) [
      | inl here ↦
          let ones : first ≡ one = some-same first one (sym at_first ∙ ap (λ n. slice_get cube (2 * n)) (sym here) ∙ at_one) in
          let others : second ≡ another = some-same second another (sym at_second ∙ ap (λ n. slice_get cube (2 * n + 1)) (sym here) ∙ at_another) in
          let owns : moment ≡ own = some-same moment own (sym at_moment ∙ ap (λ n. slice_get circuit.moments n) (sym here) ∙ at_own) in
          are.others (2 + i) (not_reached (2 + i) (omega arith)) ∙ ap (λ n. slice_get (set old (2 + input) x) (2 + n)) here
          ∙ slice_get-set_same old (2 + input) x (omega (arith, all))
          ∙ ap (λ y. Some y) is ∙ ap (λ t. Some (functions.input_of t second moment)) ones
          ∙ ap (λ t. Some (functions.input_of one t moment)) others ∙ ap (λ t. Some (functions.input_of one another t)) owns
      | inr apart ↦
          stays (2 + i) (not_reached (2 + i) (omega arith)) (λ e. apart (omega arith))
          ∙ is_front.inputs i one another own few (omega (arith, all))
          (agree (2 * i) (λ e. apart (omega arith)) (λ e. absurd (omega arith)) ∙ at_one)
          (agree (2 * i + 1) (λ e. absurd (omega arith)) (λ e. apart (omega arith)) ∙ at_another) at_own
    ]

    at_gates : (place : ℕ) (gate : NumberedGate) → slice_get circuit.gates place ≡ Some gate
        → slice_get new (first_output circuit + place) ≡ Some (functions.gate_of gate.kind gate.delay (filter_map (slice_get new) gate.inputs))
    at_gates place gate stands = elim (has_or_not cone (first_output circuit + place)) [
      | inl has ↦ are.each place gate stands has
      | inr none ↦
          let within : place < length circuit.gates = slice_get_within circuit.gates place gate stands in
          let same : filter_map (slice_get new) gate.inputs ≡ filter_map (slice_get old) gate.inputs =
          filter_map-same (slice_get new) (slice_get old) gate.inputs (recursion_from_All (λ read. slice_get new read ≡ slice_get old read) gate.inputs
          (All-from_contains (λ read. slice_get new read ≡ slice_get old read) gate.inputs (λ read reads.
          let reads_it : ReadsNet circuit place read = record { gate = gate; stands = stands; reads = reads } in
          stays read (λ has. none (is_cone.each place read within reads_it (inr has))) (λ e. none (is_cone.each place read within reads_it (inl e)))))) in
          stays (first_output circuit + place) none (λ e. absurd (omega arith))
          ∙ is_front.gates place gate stands (omega (arith, all))
          ∙ ap (λ picks. Some (functions.gate_of gate.kind gate.delay picks)) (sym same)
    ]

    pub redo-end : AreFirstSignals functions reach circuit cube new
    redo-end = record {
      low = stays 0 (not_reached 0 (omega arith)) (λ e. absurd (omega arith)) ∙ is_front.low;
      high = stays 1 (not_reached 1 (omega arith)) (λ e. absurd (omega arith)) ∙ is_front.high;
      inputs = λ i one another own few within at_one at_another at_own. at_inputs i one another own few at_one at_another at_own;
      gates = λ place gate stands within. at_gates place gate stands;
      reaches = are.near;
    }

  -- the page of the narrower cube
  pub redone-page : (cube : List Trit) (position : ℕ) (first second : Trit) (moment : ℕ) (x : Sig) (old base new : List Sig) (cone : List ℕ)
      → position < length cube
      → IsPage functions reach circuit (record { cube = set cube position Free; signals = old })
      → IsCone circuit (2 + position / 2) cone
      → slice_get cube (2 * (position / 2)) ≡ Some first → slice_get cube (2 * (position / 2) + 1) ≡ Some second
      → slice_get circuit.moments (position / 2) ≡ Some moment
      → x ≡ functions.input_of first second moment → base ≡ set old (2 + position / 2) x → AreAllRedone functions reach circuit cone base new
      → IsPage functions reach circuit (record { cube = cube; signals = new })
  redone-page cube position first second moment x old base new cone within page is_cone at_first at_second at_moment is is_base are =
      let positions : length cube ≡ 2 * length circuit.netlist.inputs = sym (length-set cube position Free) ∙ page.positions in
      record {
        positions = positions;
        count = are.count ∙ ap length is_base ∙ length-set old (2 + position / 2) x ∙ page.count;
        front = redo-end (set cube position Free) cube (position / 2) first second moment x old new cone (omega arith) at_first at_second at_moment
            (λ other apart also. slice_get-set_other cube position Free other (λ e. go other apart also e))
            page.count page.front is_cone is (rw is_base at are);
      }
    where
      go : (other : ℕ) → other ≢ 2 * (position / 2) → other ≢ 2 * (position / 2) + 1 → other ≡ position → ⊥
      go other apart also e = elim (cases_eq other (2 * (position / 2))) [
        | inl same ↦ apart same
        | inr differs ↦ also (omega arith)
      ]
