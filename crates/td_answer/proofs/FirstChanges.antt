-- When an output changes first, by edges.
use Rattle.std.proofs.Common.{◌≡◌, ◌∙◌, ℕ, ◌+◌, ◌*◌, ◌<◌, ◌≤◌, zero, suc, List, [], ◌∷◌, length, map, get_or, drop, refl, sym, ap, arith, inl, inr, false, Option, Some, None}
use Rattle.std.specs.Prelude.{slice_get, filter_map}
use Rattle.std.specs.List.{Contains}
use Rattle.std.proofs.Math.Seq.{drop-cons}
use Rattle.std.proofs.Math.Numerals.{add-one}
use Rattle.std.proofs.lemmas.List.{at_drop_all, length-map}
use Rattle.std.proofs.lemmas.List.Elements.{recursion_from_All}
use Rattle.td_gates.specs.Table.{level_from}
use Rattle.td_gates.specs.Wave.{Wave, at, before}
use Rattle.td_gates.proofs.Levels.{cases_level}
use Rattle.td_gates.proofs.Places.{Contains-slice_get, map-fuse, slice_get-map_some, slice_get-some, slice_get-within}
use Rattle.td_nets.specs.Netlist.{Name, Net, Named}
use Rattle.td_circuit.specs.NetValues.{net_value}
use Rattle.td_circuit.specs.Numbering.{Numbered, IsNumbering, nets, setting}
use Rattle.td_circuit.specs.Run.{Runs}
use Rattle.td_circuit.specs.Settings.{AreMoments}
use Rattle.td_circuit.proofs.Nets.{numbers-below}
use Rattle.td_circuit.proofs.Values.{named-numbers, value_at}
use Rattle.td_domain.specs.declared.cubes.Trit.{Trit}
use Rattle.td_domain.specs.Bounds.{AreSignals}
use Rattle.td_domain.specs.Cubes.{IsIn}
use Rattle.td_domain.specs.FirstSignals.{AreFirstSignals}
use Rattle.td_domain.specs.Pairs.{Pair}
use Rattle.td_domain.proofs.Soundness.{covered, front-values, picked}
use Rattle.td_edges.specs.declared.signals.Signal.{Signal}
use Rattle.td_edges.specs.declared.signals.Span.{Span}
use Rattle.td_edges.specs.Coverage.{ChangesWithin, EdgesCover}
use Rattle.td_edges.specs.EdgeLaws.{covers_constant, covers_gate, covers_input}
use Rattle.td_edges.specs.EdgeSignals.{edge_functions}
use Rattle.td_spans.specs.Pieces.{nearest}
use Rattle.td_answer.specs.Starts.{earliest_in, first_change, soonest, IsBefore, IsQuietUntil, IsSoundStart}

-- ---- the soonest of moments

pub sooner-assoc : (a b c : Option ℕ) → nearest (nearest a b) c ≡ nearest a (nearest b c)
sooner-assoc None b c = refl
sooner-assoc (Some a) None c = refl
sooner-assoc (Some a) (Some b) None = refl
sooner-assoc (Some a) (Some b) (Some c) = ap (λ (m : ℕ). Some m) (omega arith)

-- the first change of the signals at these places
abbrev pub soonest_at : List Signal → List ℕ → Option ℕ
soonest_at signals nets = soonest (map first_change (filter_map (slice_get signals) nets))

pub soonest_at-drop : (signals : List Signal) (nets : List ℕ) (i : ℕ) (signal : Signal) → i < length nets
    → slice_get signals (get_or nets i 0) ≡ Some signal → soonest_at signals (drop i nets) ≡ nearest (first_change signal) (soonest_at signals (drop (i + 1) nets))
soonest_at-drop signals nets i signal within stands = rw (add-one, drop-cons nets i 0, stands) refl

-- one net more
pub one_more : (signals : List Signal) (nets : List ℕ) (i : ℕ) (first next new : Option ℕ) (signal : Signal) → i < length nets
    → slice_get signals (get_or nets i 0) ≡ Some signal → next ≡ first_change signal → new ≡ nearest first next
    → nearest first (soonest_at signals (drop i nets)) ≡ soonest_at signals nets → nearest new (soonest_at signals (drop (i + 1) nets)) ≡ soonest_at signals nets
one_more signals nets i first next new signal within stands next_is new_is so_far =
    ap (λ (moment : Option ℕ). nearest moment (soonest_at signals (drop (i + 1) nets))) (new_is ∙ ap (nearest first) next_is)
    ∙ sooner-assoc first (first_change signal) (soonest_at signals (drop (i + 1) nets))
    ∙ ap (nearest first) (sym (soonest_at-drop signals nets i signal within stands)) ∙ so_far

sooner-none : (moment : Option ℕ) → moment ≡ nearest moment None
sooner-none None = refl
sooner-none (Some moment) = refl

-- no net more
pub no_more : (signals : List Signal) (nets : List ℕ) (i : ℕ) (first : Option ℕ) → length nets ≤ i
    → nearest first (soonest_at signals (drop i nets)) ≡ soonest_at signals nets → first ≡ soonest_at signals nets
no_more signals nets i first long so_far =
    sooner-none first ∙ ap (nearest first) (sym (at_drop_all (soonest_at signals) nets i long)) ∙ so_far

-- a moment before the soonest is before each
before_both : (one other : Option ℕ) (t : ℕ) → IsBefore (nearest one other) t → IsBefore one t × IsBefore other t
before_both None other t early = (tt, early)
before_both (Some one) None t early = (early, tt)
before_both (Some one) (Some other) t early = (omega (arith, early), omega (arith, early))

before_each : {A : Type 0} (first : A → Option ℕ) (xs : List A) (t : ℕ) → IsBefore (soonest (map first xs)) t
    → (i : ℕ) (x : A) → slice_get xs i ≡ Some x → IsBefore (first x) t
before_each first [] t early i x at_i = absurd (let no : None ≡ Some x = at_i in cc)
before_each first (y ∷ xs) t early zero x at_i =
    let same : y ≡ x = (let e : Some y ≡ Some x = at_i in cc) in
    rw same at (before_both (first y) (soonest (map first xs)) t early).0
before_each first (y ∷ xs) t early (suc i) x at_i =
    before_each first xs t (before_both (first y) (soonest (map first xs)) t early).1 i x at_i

-- a wave doesn't change before its signal's first change
quiet : (changes : Option Span) (wave : Wave) (t : ℕ) → ChangesWithin changes wave → IsBefore (earliest_in changes) t → at wave t ≡ before wave t
quiet None wave t within early = within t
quiet (Some span) wave t within early = elim (cases_level (at wave t) (before wave t)) [
  | inl same ↦ same
  | inr differ ↦ let late = (within t differ).0 in absurd (omega (arith, early, late))
]

-- ---- the start of a cube

module _ (circuit : Numbered) (numbering : IsNumbering circuit) (fit : AreMoments circuit.netlist circuit.moments)
    (cube : List Trit) (count : length cube ≡ 2 * length circuit.netlist.inputs)
    (reach : Signal → ℕ) (front : List Signal) (whole : length front ≡ length (nets circuit))
    (is_front : AreFirstSignals edge_functions reach circuit cube front) where
  abbrev z : Signal
  z = edge_functions.constant_of false

  abbrev signals : Net → Signal
  signals net = net_value z (nets circuit) front net

  are_signals : AreSignals edge_functions (setting circuit) cube signals
  are_signals = front-values edge_functions reach circuit numbering cube front whole is_front

  -- the signals at the outputs' numbers are those of their names
  outputs_are : filter_map (slice_get front) circuit.outputs ≡ map signals (map (λ name. Named name) circuit.netlist.outputs)
  outputs_are =
      picked z front circuit.outputs (recursion_from_All (λ n. n < length front) circuit.outputs (rw whole (numbers-below (nets circuit) circuit.outputs _ numbering.outputs)))
      ∙ sym (named-numbers z signals (nets circuit) front circuit.outputs _ numbering.outputs (value_at z circuit numbering front whole))

  abbrev start : Option ℕ
  start = soonest (map (λ name. first_change (signals (Named name))) circuit.netlist.outputs)

  start_is : soonest_at front circuit.outputs ≡ start
  start_is =
      ap (λ (those : List Signal). soonest (map first_change those)) (outputs_are ∙ map-fuse (λ name. Named name) signals circuit.netlist.outputs)
      ∙ ap soonest (map-fuse (λ name. signals (Named name)) first_change circuit.netlist.outputs)

  module _ (pair : Pair) (waves : Net → Wave) (is_in : IsIn pair cube)
      (runs : Runs (setting circuit) (map level_from pair.first) (map level_from pair.second) waves) where
    covers_output : (i : ℕ) (name : Name) → slice_get circuit.netlist.outputs i ≡ Some name → EdgesCover (signals (Named name)) (waves (Named name))
    covers_output i name at_i =
        let few = slice_get-some circuit.netlist.outputs i name at_i in
        let named = slice_get-map_some (λ n. Named n) circuit.netlist.outputs i name at_i in
        let number = slice_get-within circuit.outputs i (omega (arith, few, numbering.outputs.count, length-map circuit.netlist.outputs (λ (n : Name). Named n))) in
        (covered EdgesCover edge_functions covers_input covers_constant covers_gate circuit numbering fit cube count signals are_signals pair is_in waves runs
        number.0 (Named name) (numbering.outputs.each i number.0 (Named name) number.1 named)).0

    quiet_output : (name : Name) → Contains circuit.netlist.outputs name → (t : ℕ) → IsBefore start t
        → at (waves (Named name)) t ≡ before (waves (Named name)) t
    quiet_output name has t early =
        let here = Contains-slice_get circuit.netlist.outputs name has in
        quiet (signals (Named name)).changes (waves (Named name)) t (covers_output here.0 name here.1).changes
        (before_each (λ name. first_change (signals (Named name))) circuit.netlist.outputs t early here.0 name here.1)

  sound : IsQuietUntil (setting circuit) cube start
  sound pair waves is_in runs name has t early = quiet_output pair waves is_in runs name has t early

  pub sound_start : (answer : Option ℕ) → answer ≡ soonest_at front circuit.outputs → IsSoundStart (setting circuit) cube answer
  sound_start answer is = rw (is, start_is) (record {
    is = record { signals = signals; are_signals = are_signals; is_soonest = refl };
    sound = sound;
  })
