-- Where an output that may change as late as any by one domain has no known finish there, possible
-- levels know no last moment of it, and the bound of both domains at once is that of the one.
use Rattle.std.proofs.Common.{◌≡◌, ◌≢◌, ℕ, zero, suc, ◌+◌, ◌-◌, ◌*◌, ◌^◌, ◌<◌, ◌≤◌, max, min, Bool, true, false, List, [], ◌∷◌, ◌++◌, length, map, refl, arith, inl, inr, sym, ap, subst, ◌∙◌, Some, None, Option, get_or, length-append}
use Rattle.std.specs.Prelude.{slice_get, filter_map}
use Rattle.std.specs.List.{All, AllByRecursion}
use Rattle.std.proofs.lemmas.Bool.{cases_eq, cases_lt, cases_Bool}
use Rattle.std.proofs.lemmas.Option.{none-some}
use Rattle.std.proofs.lemmas.List.Elements.{recursion_from_All}
use Rattle.td_gates.specs.declared.primitives.Level.{Level}
use Rattle.td_gates.specs.declared.primitives.Level.TheVariants.{X}
use Rattle.td_gates.specs.declared.primitives.Kind.{Kind}
use Rattle.td_gates.specs.declared.timing.Delay.{Delay}
use Rattle.td_gates.specs.Table.{level_from, level_eq, table}
use Rattle.td_gates.specs.Wave.{Wave}
use Rattle.td_gates.proofs.TableLaws.{AllAgree}
use Rattle.td_gates.proofs.Places.{some-same, slice_get-within, slice_get-some, slice_get-get}
use Rattle.td_gates.specs.Known.{Agrees}
use Rattle.td_circuit.specs.Settings.{AreMoments}
use Rattle.td_circuit.specs.Numbering.{Numbered, nets, setting, first_output, IsNumbering}
use Rattle.td_circuit.proofs.Nets.{lower-at, length-nets, numbers-below}
use Rattle.td_domain.specs.declared.cubes.Trit.{Trit}
use Rattle.td_domain.specs.Cubes.{level_of_trit}
use Rattle.td_domain.specs.Functions.{Functions}
use Rattle.td_domain.specs.FirstSignals.{AreFirstSignals}
use Rattle.td_domain.specs.Bounds.{IsBound, greater}
use Rattle.td_domain.specs.Together.{both_functions, lesser, pairs}
use Rattle.td_domain.proofs.FrontLemmas.{grown_input, grown_gate, in_range-at}
use Rattle.td_domain.proofs.GreatestLemmas.{greatest_at, greater-some}
use Rattle.td_domain.proofs.Pairing.{pairs-front, pairs-get, length-pairs}
use Rattle.td_domain.proofs.Soundness.{front-bound}
use Rattle.td_ternary.specs.Possibles as possible
use Rattle.td_ternary.specs.Possibles.{possible_functions, last_change}
use Rattle.td_ternary.specs.PossibleLaws.{reach_input, reach_gate}
use Rattle.td_search.specs.OpenEnds.{HasOpenEnd}
use Rattle.td_search.proofs.Ends.{end_of, last-changed, gate-end}

early-at : (moments : List ℕ) (i moment : ℕ) → All (λ m. m ≤ 1000000000) moments → slice_get moments i ≡ Some moment → moment ≤ 10 ^ 9
early-at moments i moment all at =
    let small : get_or moments i moment ≤ 1000000000 = all i moment (slice_get-some moments i moment at) in
    let is : get_or moments i moment ≡ moment = slice_get-get moments i moment moment at in
    omega arith

-- ---- the signals of possible levels, which each cube has
module _ (circuit : Numbered) (numbering : IsNumbering circuit) (fit : AreMoments circuit.netlist circuit.moments)
    (cube : List Trit) (positions : length cube ≡ 2 * length circuit.netlist.inputs) where
  abbrev ArePossible : List Wave → Type 0
  ArePossible signals = AreFirstSignals possible_functions (λ signal. last_change signal.changes) circuit cube signals

  abbrev constants : List Wave
  constants = possible.constant_signal false ∷ possible.constant_signal true ∷ []

  constants-small : (net : ℕ) (signal : Wave) → slice_get constants net ≡ Some signal → last_change signal.changes ≤ (net + 1) * 10 ^ 9
  constants-small zero signal at =
      let is : possible.constant_signal false ≡ signal = some-same (possible.constant_signal false) signal at in
      rw (← is) (omega arith)
  constants-small (suc zero) signal at =
      let is : possible.constant_signal true ≡ signal = some-same (possible.constant_signal true) signal at in
      rw (← is) (omega arith)
  constants-small (suc (suc net)) signal at = absurd (none-some signal at)

  of-constants : ArePossible constants
  of-constants = record {
    low = refl;
    high = refl;
    inputs = λ i first second moment few within at_first at_second at_moment. absurd (omega (arith, within));
    gates = λ place gate stands within. absurd (omega (arith, within));
    reaches = constants-small;
  }

  of-inputs : (count : ℕ) → count ≤ length circuit.netlist.inputs → (signals : List Wave) × (length signals ≡ 2 + count) × ArePossible signals
  of-inputs zero few = (constants, refl, of-constants)
  of-inputs (suc count) few =
      let before = of-inputs count (omega arith) in
      let first = slice_get-within cube (2 * count) (omega (arith, positions)) in
      let second = slice_get-within cube (2 * count + 1) (omega (arith, positions)) in
      let moment = slice_get-within circuit.moments count (omega (arith, fit.count)) in
      let early : moment.0 ≤ 10 ^ 9 = early_moment count moment.0 moment.1 in
      let signal : Wave = possible.input_signal first.0 second.0 moment.0 in (
        before.0 ++ signal ∷ [],
        length-append before.0 (signal ∷ []) ∙ omega (arith, before.1),
        grown_input possible_functions (λ wave. last_change wave.changes) circuit numbering cube reach_input before.0 (before.0 ++ signal ∷ []) signal count
            first.0 second.0 moment.0 (omega arith) before.1 before.2 first.1 second.1 moment.1 early refl refl,
      )
    where
      early_moment : (i m : ℕ) → slice_get circuit.moments i ≡ Some m → m ≤ 10 ^ 9
      early_moment i m at = early-at circuit.moments i m fit.within at

  of-gates : (count : ℕ) → count ≤ length circuit.gates → (signals : List Wave) × (length signals ≡ first_output circuit + count) × ArePossible signals
  of-gates zero few =
      let before = of-inputs (length circuit.netlist.inputs) (omega arith) in
      (before.0, before.1 ∙ omega arith, before.2)
  of-gates (suc count) few =
      let before = of-gates count (omega arith) in
      let gate = slice_get-within circuit.gates count (omega arith) in
      let signal : Wave = possible.gate_signal gate.0.kind gate.0.delay (filter_map (slice_get before.0) gate.0.inputs) in (
        before.0 ++ signal ∷ [],
        length-append before.0 (signal ∷ []) ∙ omega (arith, before.1),
        grown_gate possible_functions (λ wave. last_change wave.changes) circuit numbering cube reach_gate before.0 (before.0 ++ signal ∷ []) signal count gate.0
            gate.1 before.1 before.2 refl refl,
      )

  pub of-nets : (signals : List Wave) × (length signals ≡ length (nets circuit)) × ArePossible signals
  of-nets =
      let all = of-gates (length circuit.gates) (omega arith) in
      (all.0, all.1 ∙ sym (length-nets circuit numbering), all.2)

-- what the greater of two is made of
parts : (one rest : Option ℕ) (d : ℕ) → greater one rest ≡ Some d → (x : ℕ) × (one ≡ Some x) × (c : ℕ) × (rest ≡ Some c) × (x ≤ d) × (c ≤ d)
parts None rest d is = absurd (none-some d is)
parts (Some x) rest d is = let known = greater-some x rest d is in (x, refl, known.0, known.1, known.2, known.3)

lesser-some : (x : ℕ) (other : Option ℕ) → (y : ℕ) × (lesser (Some x) other ≡ Some y) × (y ≤ x)
lesser-some x None = (x, refl, omega arith)
lesser-some x (Some other) = (min x other, refl, omega arith)

-- ---- a domain that says finishes by the gates' tables
module _ {Sig : Type 0} (functions : Functions Sig) (reach : Sig → ℕ) (finish_of : Sig → Level)
    (finish_input : (first second : Trit) (moment : ℕ) → finish_of (functions.input_of first second moment) ≡ level_of_trit second)
    (finish_constant : (one : Bool) → finish_of (functions.constant_of one) ≡ level_from one)
    (finish_gate : (kind : Kind) (delay : Delay) (signals : List Sig) → finish_of (functions.gate_of kind delay signals) ≡ table kind (map finish_of signals))
    (circuit : Numbered) (numbering : IsNumbering circuit) (fit : AreMoments circuit.netlist circuit.moments)
    (cube : List Trit) (positions : length cube ≡ 2 * length circuit.netlist.inputs) (firsts : List Sig) (count : length firsts ≡ length (nets circuit))
    (is_front : AreFirstSignals functions reach circuit cube firsts) where
  module _ (seconds : List Wave) (same : length seconds ≡ length firsts)
      (also_front : AreFirstSignals possible_functions (λ signal. last_change signal.changes) circuit cube seconds) where
    -- the level at which the wave ends is the finish, or both levels
    abbrev EndsAt : ℕ → Type 0
    EndsAt net = (signal : Sig) (wave : Wave) → slice_get firsts net ≡ Some signal → slice_get seconds net ≡ Some wave → Agrees (end_of wave) (finish_of signal)

    read : (limit : ℕ) → limit ≤ length firsts → ((net : ℕ) → net < limit → EndsAt net) → (read_nets : List ℕ) → AllByRecursion (λ net. net < limit) read_nets
        → AllAgree (map end_of (filter_map (slice_get seconds) read_nets)) (map finish_of (filter_map (slice_get firsts) read_nets))
    read limit short ends [] below = tt
    read limit short ends (net ∷ read_nets) below =
        let first = slice_get-within firsts net (omega (arith, below.0)) in
        let second = slice_get-within seconds net (omega (arith, same, below.0)) in
        rw (first.1, second.1) (ends net below.0 first.0 second.0 first.1 second.1, read limit short ends read_nets below.1)

    constant-ends : (net : ℕ) (one : Bool) → slice_get firsts net ≡ Some (functions.constant_of one) → slice_get seconds net ≡ Some (possible.constant_signal one) → EndsAt net
    constant-ends net one first second signal wave at also_at known =
        let s : functions.constant_of one ≡ signal = some-same (functions.constant_of one) signal (sym first ∙ at) in
        let w : possible.constant_signal one ≡ wave = some-same (possible.constant_signal one) wave (sym second ∙ also_at) in
        ap finish_of (sym s) ∙ finish_constant one ∙ ap end_of w

    input-ends : (i : ℕ) → i < length circuit.netlist.inputs → EndsAt (2 + i)
    input-ends i few signal wave at also_at known =
        let first = slice_get-within cube (2 * i) (omega (arith, positions)) in
        let second = slice_get-within cube (2 * i + 1) (omega (arith, positions)) in
        let moment = slice_get-within circuit.moments i (omega (arith, fit.count)) in
        let s : functions.input_of first.0 second.0 moment.0 ≡ signal = some-same (functions.input_of first.0 second.0 moment.0) signal
        (sym (is_front.inputs i first.0 second.0 moment.0 few (omega (arith, count, length-nets circuit numbering)) first.1 second.1 moment.1) ∙ at) in
        let w : possible.input_signal first.0 second.0 moment.0 ≡ wave = some-same (possible.input_signal first.0 second.0 moment.0) wave
        (sym (also_front.inputs i first.0 second.0 moment.0 few (omega (arith, count, same, length-nets circuit numbering)) first.1 second.1 moment.1) ∙ also_at) in
        ap finish_of (sym s) ∙ finish_input first.0 second.0 moment.0 ∙ sym (last-changed moment.0 (level_of_trit first.0) (level_of_trit second.0)) ∙ ap end_of w

    gate-ends : (place : ℕ) → place < length circuit.gates → ((net : ℕ) → net < first_output circuit + place → EndsAt net) → EndsAt (first_output circuit + place)
    gate-ends place inside lower signal wave at also_at known =
        let gate = slice_get-within circuit.gates place inside in
        let within : first_output circuit + place < length firsts = omega (arith, count, length-nets circuit numbering) in
        let reads : List Sig = filter_map (slice_get firsts) gate.0.inputs in
        let reads_possible : List Wave = filter_map (slice_get seconds) gate.0.inputs in
        let s : functions.gate_of gate.0.kind gate.0.delay reads ≡ signal = some-same (functions.gate_of gate.0.kind gate.0.delay reads) signal
        (sym (is_front.gates place gate.0 gate.1 within) ∙ at) in
        let w : possible.gate_signal gate.0.kind gate.0.delay reads_possible ≡ wave = some-same (possible.gate_signal gate.0.kind gate.0.delay reads_possible) wave
        (sym (also_front.gates place gate.0 gate.1 (omega (arith, within, same))) ∙ also_at) in
        let agree = read (first_output circuit + place) (omega (arith, within)) lower gate.0.inputs
        (recursion_from_All (λ net. net < first_output circuit + place) gate.0.inputs (lower-at circuit numbering place gate.0 gate.1)) in
        let known_gate : end_of (possible.gate_signal gate.0.kind gate.0.delay reads_possible) ≢ X = λ none. known (sym (ap end_of w) ∙ none) in
        ap finish_of (sym s) ∙ finish_gate gate.0.kind gate.0.delay reads
        ∙ gate-end gate.0.kind gate.0.delay (in_range-at circuit numbering place gate.0 gate.1) reads_possible (map finish_of reads) agree known_gate
        ∙ ap end_of w

    ends : (limit net : ℕ) → net < limit → net < length firsts → EndsAt net
    ends zero net less inside = absurd (omega arith)
    ends (suc limit) net less inside = elim (cases_lt net 2) [
      | inl low ↦ elim (cases_eq net 0) [
        | inl first ↦ subst EndsAt (sym first) (constant-ends 0 false is_front.low also_front.low)
        | inr other ↦ (let second : net ≡ 1 = omega arith in subst EndsAt (sym second) (constant-ends 1 true is_front.high also_front.high))
      ]
      | inr high ↦ elim (cases_lt net (first_output circuit)) [
        | inl input ↦
            let i : ℕ = net - 2 in
            let here : 2 + i ≡ net = omega arith in
            subst EndsAt here (input-ends i (omega arith))
        | inr output ↦
            let place : ℕ = net - first_output circuit in
            let here : first_output circuit + place ≡ net = omega arith in
            subst EndsAt here (gate-ends place (omega (arith, count, length-nets circuit numbering))
            (λ other lower. ends limit other (omega arith) (omega (arith, count, length-nets circuit numbering))))
      ]
    ]

    -- where the finish isn't known, no last moment is
    open-none : (net : ℕ) (signal : Sig) (wave : Wave) → slice_get firsts net ≡ Some signal → slice_get seconds net ≡ Some wave → net < length firsts → finish_of signal ≡ X
        → possible.last_of wave ≡ None
    open-none net signal wave at also_at inside unknown = elim (cases_Bool (level_eq (end_of wave) X)) [
      | inl none ↦ rw none refl
      | inr some ↦
          let known : end_of wave ≢ X = λ is. (let none : level_eq (end_of wave) X ≡ true = rw is refl in absurd cc) in
          absurd (known (sym (ends (suc net) net (omega arith) inside signal wave at also_at known) ∙ unknown))
    ]

    abbrev last_of_both : Sig × Wave → Option ℕ
    last_of_both pair = lesser (functions.last_of pair.0) (possible.last_of pair.1)

    lesser-within : (outputs : List ℕ) → AllByRecursion (λ net. net < length firsts) outputs → (bound : ℕ) → greatest_at functions.last_of firsts outputs ≡ Some bound
        → (d : ℕ) × (greatest_at last_of_both (pairs firsts seconds) outputs ≡ Some d) × (d ≤ bound)
    lesser-within [] below bound is = (0, refl, omega arith)
    lesser-within (net ∷ outputs) below bound is =
        let first = slice_get-within firsts net below.0 in
        let second = slice_get-within seconds net (omega (arith, same, below.0)) in
        let pair = pairs-get firsts seconds net first.0 second.0 first.1 second.1 in
        let known = parts (functions.last_of first.0) (greatest_at functions.last_of firsts outputs) bound (rw first.1 at is) in
        let rest = lesser-within outputs below.1 known.2 known.3 in
        let here = lesser-some known.0 (possible.last_of second.0) in
        let both : last_of_both (first.0, second.0) ≡ Some here.0 = ap (λ (one : Option ℕ). lesser one (possible.last_of second.0)) known.1 ∙ here.1 in
        (max here.0 rest.0, rw (pair, both, rest.1) refl, omega (arith, here.2, rest.2, known.4, known.5))

    open-least : (outputs : List ℕ) → AllByRecursion (λ net. net < length firsts) outputs → (d : ℕ) → greatest_at last_of_both (pairs firsts seconds) outputs ≡ Some d
        → (place : ℕ) → place < length outputs → (signal : Sig) (moment : ℕ) → slice_get firsts (get_or outputs place 0) ≡ Some signal
        → functions.last_of signal ≡ Some moment → finish_of signal ≡ X → moment ≤ d
    open-least [] below d is place inside signal moment stands last unknown = absurd (omega arith)
    open-least (net ∷ outputs) below d is zero inside signal moment stands last unknown =
        let second = slice_get-within seconds net (omega (arith, same, below.0)) in
        let pair = pairs-get firsts seconds net signal second.0 stands second.1 in
        let none = open-none net signal second.0 stands second.1 below.0 unknown in
        let both : last_of_both (signal, second.0) ≡ Some moment = rw (last, none) refl in
        let known = parts (last_of_both (signal, second.0)) (greatest_at last_of_both (pairs firsts seconds) outputs) d (rw pair at is) in
        let same_moment : moment ≡ known.0 = some-same moment known.0 (sym both ∙ known.1) in
        omega (arith, known.4)
    open-least (net ∷ outputs) below d is (suc place) inside signal moment stands last unknown =
        let first = slice_get-within firsts net below.0 in
        let second = slice_get-within seconds net (omega (arith, same, below.0)) in
        let pair = pairs-get firsts seconds net first.0 second.0 first.1 second.1 in
        let known = parts (last_of_both (first.0, second.0)) (greatest_at last_of_both (pairs firsts seconds) outputs) d (rw pair at is) in
        let later = open-least outputs below.1 known.2 known.3 place (omega arith) signal moment stands last unknown in
        omega (arith, known.5)

  pub open-is-both : (bound : ℕ) → greatest_at functions.last_of firsts circuit.outputs ≡ Some bound → HasOpenEnd functions.last_of finish_of firsts circuit.outputs bound
      → IsBound (both_functions functions possible_functions) (setting circuit) cube (Some bound)
  open-is-both bound is_bound end =
      let possibles = of-nets circuit numbering fit cube positions in
      let seconds : List Wave = possibles.0 in
      let same : length seconds ≡ length firsts = possibles.1 ∙ sym count in
      let below : AllByRecursion (λ net. net < length firsts) circuit.outputs =
      recursion_from_All (λ net. net < length firsts) circuit.outputs (rw count (numbers-below (nets circuit) circuit.outputs _ numbering.outputs)) in
      let less = lesser-within seconds same possibles.2 circuit.outputs below bound is_bound in
      let more = open-least seconds same possibles.2 circuit.outputs below less.0 less.1 end.place end.within end.signal bound end.stands end.last end.unknown in
      let bound_is : less.0 ≡ bound = omega (arith, less.2) in
      front-bound (both_functions functions possible_functions) (λ pair. max (reach pair.0) (last_change pair.1.changes)) circuit numbering cube (pairs firsts seconds)
      (length-pairs firsts seconds same ∙ count)
      (pairs-front functions possible_functions reach (λ signal. last_change signal.changes) circuit numbering cube firsts seconds same is_front possibles.2)
      (Some bound) (sym (less.1 ∙ ap (λ (n : ℕ). Some n) bound_is))
