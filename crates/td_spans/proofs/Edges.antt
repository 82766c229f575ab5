-- Edges: the signals with which a refutation begins cover each run, and their times are right for it.
use Rattle.std.proofs.Common.{◌≡◌, ◌≢◌, ℕ, zero, suc, ◌+◌, ◌*◌, ◌<◌, ◌≤◌, Bool, true, false, List, [], ◌∷◌, ◌++◌, length, map, get_or, refl, arith, ap, sym, ◌∙◌, subst, inl, inr, Option, Some}
use Rattle.std.specs.Prelude.{slice_get, filter_map}
use Rattle.std.specs.List.{AllByRecursion, AllZip}
use Rattle.std.proofs.lemmas.Bool.{cases_lt, cases_Bool}
use Rattle.std.proofs.lemmas.List.{length-append, length-map}
use Rattle.std.proofs.lemmas.List.Elements.{recursion_from_All, All-from_recursion}
use Rattle.std.proofs.lemmas.Option.{get_or_from_slice_get}
use Rattle.td_gates.specs.declared.primitives.Level.TheVariants.{X}
use Rattle.td_gates.specs.Delays.{IsInRange}
use Rattle.td_gates.specs.Table.{level_from, TakesInputs}
use Rattle.td_gates.specs.Wave.{Wave, at, before}
use Rattle.td_gates.specs.Schedule.{Obeys}
use Rattle.td_gates.proofs.Places.{some-same, slice_get-within, slice_get-get, slice_get-push_cases}
use Rattle.td_nets.specs.Netlist.{Net}
use Rattle.td_circuit.specs.Settings.{AreMoments}
use Rattle.td_circuit.specs.Numbering.{NumberedGate, Numbered, setting, first_output, IsNumbering}
use Rattle.td_circuit.specs.Run.{Runs}
use Rattle.td_circuit.proofs.Nets.{takes-at, range-at, lower-at}
use Rattle.td_domain.specs.declared.cubes.Trit.{Trit}
use Rattle.td_domain.specs.declared.cubes.Trit.TheVariants as trit
use Rattle.td_domain.specs.Pairs.{Pair}
use Rattle.td_domain.specs.Cubes.{Allows, IsIn, IsInputWave, level_of_trit}
use Rattle.td_domain.specs.Admits.{Admitted, IsAdmitted}
use Rattle.td_domain.specs.Waves.{IsBoolean}
use Rattle.td_edges.specs.declared.signals.Signal.{Signal}
use Rattle.td_edges.specs.EdgeSignals.{constant_signal}
use Rattle.td_edges.specs.Coverage.{EdgesCover}
use Rattle.td_edges.specs.EdgeLaws.{covers_input, covers_constant, covers_gate}
use Rattle.td_spans.specs.Timing.{level_bits}
use Rattle.td_spans.specs.declared.times.Times.{Times}
use Rattle.td_spans.specs.Times.{AreTimes, AreAllTimes}
use Rattle.td_spans.specs.Changing.{is_still}
use Rattle.td_spans.specs.Rules.{no_times}
use Rattle.td_spans.specs.Signals.{merged, still_signal, signal_by, input_at, inputs_to, output_signal, gates_from, first_signals, times_from, first_times}
use Rattle.td_spans.proofs.Sums.{still_same}
use Rattle.td_spans.proofs.Running.{held_at, so_some, wave_of, wave_boolean, low_wave, high_wave, input_wave, gate_wave}
use Rattle.td_spans.proofs.Covering.{rest_of, covered_right}

-- the level of a merged trit is the bit of an input that doesn't change
merged_level : (p q : Trit) (a : Bool) → Allows p a → Allows q a → level_of_trit (merged p q) ≢ X → level_from a ≡ level_of_trit (merged p q)
merged_level trit.Zero q false x y known = refl
merged_level trit.Zero q true x y known = absurd x
merged_level trit.One q true x y known = refl
merged_level trit.One q false x y known = absurd x
merged_level trit.Free trit.Zero false x y known = refl
merged_level trit.Free trit.Zero true x y known = absurd y
merged_level trit.Free trit.One true x y known = refl
merged_level trit.Free trit.One false x y known = absurd y
merged_level trit.Free trit.Free a x y known = absurd (known refl)

-- an input that doesn't change is covered by what never changes
still_covers : (p q : Trit) (moment : ℕ) (wave : Wave) (is : IsInputWave p q moment wave) → is.before ≡ is.after → EdgesCover (still_signal p q) wave
still_covers p q moment wave is same = record {
  start = λ known. is.starts ∙ merged_level p q is.before is.first_allows (subst (Allows q) (sym same) is.second_allows) known;
  finish = λ known. (0, λ t h. constant t ∙ merged_level q p is.before (subst (Allows q) (sym same) is.second_allows) is.first_allows known);
  changes = never;
}
  where
    constant : (t : ℕ) → at wave t ≡ level_from is.before
    constant t = elim (cases_lt t moment) [
      | inl early ↦ is.keeps t early
      | inr late ↦ is.then t late ∙ ap level_from (sym same)
    ]

    never : (t : ℕ) → at wave t ≡ before wave t
    never zero = constant 0 ∙ sym is.starts
    never (suc t) = constant (suc t) ∙ sym (constant t)

map_at : (signals : List Signal) (net : ℕ) (it : Times) → slice_get (map times_from signals) net ≡ Some it
    → (s : Signal) × (slice_get signals net ≡ Some s) × (times_from s ≡ it)
map_at [] net it at_net = absurd cc
map_at (s ∷ signals) zero it at_net = (s, refl, some-same (times_from s) it at_net)
map_at (s ∷ signals) (suc net) it at_net = map_at signals net it at_net

module _ (circuit : Numbered) (numbering : IsNumbering circuit) (fit : AreMoments circuit.netlist circuit.moments) (cube : List Trit)
    (count : length cube ≡ 2 * length circuit.netlist.inputs) (admit : Admitted) (pair : Pair) (is_in : IsIn pair cube)
    (admitted : IsAdmitted admit pair) (waves : Net → Wave)
    (runs : Runs (setting circuit) (map level_from pair.first) (map level_from pair.second) waves) where
  wave : ℕ → Wave
  wave = wave_of circuit numbering fit cube count admit pair is_in admitted waves runs

  boolean : (net : ℕ) → IsBoolean (wave net)
  unfolding wave
  boolean net = wave_boolean circuit numbering fit cube count admit pair is_in admitted waves runs net

  -- each signal covers its net's wave
  abbrev AreCovered : List Signal → Type 0
  AreCovered signals = (net : ℕ) (s : Signal) → slice_get signals net ≡ Some s → EdgesCover s (wave net)

  covered_more : (signals : List Signal) (s : Signal) → AreCovered signals → EdgesCover s (wave (length signals)) → AreCovered (signals ++ s ∷ [])
  covered_more signals s are new net other at_net = elim (slice_get-push_cases signals s net other at_net) [
    | inl old ↦ are net other old
    | inr last ↦ subst (λ (x : Signal). EdgesCover x (wave net)) last.1 (subst (λ (n : ℕ). EdgesCover s (wave n)) (sym last.0) new)
  ]

  constants_covered : AreCovered (constant_signal false ∷ constant_signal true ∷ [])
  unfolding wave
  constants_covered zero s at_net = subst (λ (x : Signal). EdgesCover x (wave 0)) (some-same (constant_signal false) s at_net)
      (covers_constant false (wave 0) (low_wave circuit numbering fit cube count admit pair is_in admitted waves runs))
  constants_covered (suc zero) s at_net = subst (λ (x : Signal). EdgesCover x (wave 1)) (some-same (constant_signal true) s at_net)
      (covers_constant true (wave 1) (high_wave circuit numbering fit cube count admit pair is_in admitted waves runs))
  constants_covered (suc (suc net)) s at_net = cc

  input_covered : (i : ℕ) → i < length circuit.netlist.inputs
      → EdgesCover (input_at admit cube circuit.moments (length circuit.netlist.inputs) i) (wave (2 + i))
  unfolding wave
  input_covered i low =
      let p = slice_get-within cube (2 * i) (omega (arith, low, count)) in
      let q = slice_get-within cube (2 * i + 1) (omega (arith, low, count)) in
      let m = slice_get-within circuit.moments i (omega (arith, low, fit.count)) in
      let moment : get_or circuit.moments i 0 ≡ m.0 = get_or_from_slice_get circuit.moments i m.0 0 m.1 in
      let it = input_wave circuit numbering fit cube count admit pair is_in admitted waves runs i low p.0 q.0 m.0 p.1 q.1 m.1 in
      let still : Bool = is_still admit cube (length circuit.netlist.inputs) i in
      let is : input_at admit cube circuit.moments (length circuit.netlist.inputs) i ≡ signal_by still (Some p.0) (Some q.0) m.0 =
      ap (λ (o : Option Trit). signal_by still o (slice_get cube (2 * i + 1)) (get_or circuit.moments i 0)) p.1
      ∙ ap (λ (o : Option Trit). signal_by still (Some p.0) o (get_or circuit.moments i 0)) q.1
      ∙ ap (signal_by still (Some p.0) (Some q.0)) moment in
      subst (λ (s : Signal). EdgesCover s (wave (2 + i))) (sym is) (elim (cases_Bool still) [
        | inl so ↦ subst (λ (b : Bool). EdgesCover (signal_by b (Some p.0) (Some q.0) m.0) (wave (2 + i))) (sym so)
            (still_covers p.0 q.0 m.0 (wave (2 + i)) it.0
            (still_same (length circuit.netlist.inputs) cube count pair is_in admit admitted.few i low it.0.before it.0.after it.1 it.2
            (λ held. held_at admit.held pair.first pair.second i true it.0.before it.0.after admitted.held (so_some (slice_get admit.held i) held) it.1 it.2 refl) so))
        | inr none ↦ subst (λ (b : Bool). EdgesCover (signal_by b (Some p.0) (Some q.0) m.0) (wave (2 + i))) (sym none)
            (covers_input p.0 q.0 m.0 (wave (2 + i)) it.0)
      ])

  inputs_covered : (n : ℕ) → n ≤ length circuit.netlist.inputs → AreCovered (inputs_to admit cube circuit.moments (length circuit.netlist.inputs) n)
      × (length (inputs_to admit cube circuit.moments (length circuit.netlist.inputs) n) ≡ 2 + n)
  inputs_covered zero few = (constants_covered, refl)
  inputs_covered (suc n) few =
      let before_it = inputs_covered n (omega arith) in
      let made : Signal = input_at admit cube circuit.moments (length circuit.netlist.inputs) n in
      let next = length-append (inputs_to admit cube circuit.moments (length circuit.netlist.inputs) n) (made ∷ []) in (
        covered_more (inputs_to admit cube circuit.moments (length circuit.netlist.inputs) n) made before_it.0
            (subst (λ (k : ℕ). EdgesCover made (wave k)) (sym before_it.1) (input_covered n (omega arith))),
        omega (arith, before_it.1, next),
      )

  -- a gate's output obeys the scheduling rule
  record IsGateWave (gate : NumberedGate) (net : ℕ) : Type 0 where
    fits : IsInRange gate.delay
    takes : TakesInputs gate.kind (length gate.inputs)
    lower : AllByRecursion (λ i. i < net) gate.inputs
    obeys : Obeys gate.kind gate.delay (map wave gate.inputs) (wave net)

  zip_covered : (signals : List Signal) → AreCovered signals → (inputs : List ℕ) → AllByRecursion (λ i. i < length signals) inputs
      → AllZip EdgesCover (filter_map (slice_get signals) inputs) (map wave inputs)
  zip_covered signals are [] lows = tt
  zip_covered signals are (i ∷ inputs) lows =
      let found = slice_get-within signals i lows.0 in
      rw found.1 (are i found.0 found.1, zip_covered signals are inputs lows.1)

  all_boolean : (inputs : List ℕ) → AllByRecursion IsBoolean (map wave inputs)
  all_boolean [] = tt
  all_boolean (i ∷ inputs) = (boolean i, all_boolean inputs)

  output_covered : (signals : List Signal) → AreCovered signals → (gate : NumberedGate) → IsGateWave gate (length signals)
      → EdgesCover (output_signal signals gate) (wave (length signals))
  output_covered signals are gate is = covers_gate gate.kind gate.delay (filter_map (slice_get signals) gate.inputs) (map wave gate.inputs) (wave (length signals))
      is.fits (rw length-map is.takes) (All-from_recursion IsBoolean (map wave gate.inputs) (all_boolean gate.inputs)) (zip_covered signals are gate.inputs is.lower) is.obeys

  gates_covered : (signals : List Signal) (gates : List NumberedGate) → AreCovered signals
      → ((j : ℕ) (gate : NumberedGate) → slice_get gates j ≡ Some gate → IsGateWave gate (length signals + j)) → AreCovered (gates_from signals gates)
  gates_covered signals [] are each = are
  gates_covered signals (gate ∷ gates) are each =
      let none : length signals + 0 ≡ length signals = omega arith in
      let first : IsGateWave gate (length signals) = subst (λ (n : ℕ). IsGateWave gate n) none (each 0 gate refl) in
      let next = length-append signals (output_signal signals gate ∷ []) in
      gates_covered (signals ++ output_signal signals gate ∷ []) gates
      (covered_more signals (output_signal signals gate) are (output_covered signals are gate first))
      (λ j other at_j.
      let place : length signals + suc j ≡ length (signals ++ output_signal signals gate ∷ []) + j = omega (arith, next) in
      subst (λ (n : ℕ). IsGateWave other n) place (each (suc j) other at_j))

  gate_is : (place : ℕ) (gate : NumberedGate) → slice_get circuit.gates place ≡ Some gate → IsGateWave gate (first_output circuit + place)
  unfolding wave
  gate_is place gate at_place = record {
    fits = range-at circuit numbering place gate at_place;
    takes = takes-at circuit numbering place gate at_place;
    lower = recursion_from_All (λ n. n < first_output circuit + place) gate.inputs (lower-at circuit numbering place gate at_place);
    obeys = gate_wave circuit numbering fit cube count admit pair is_in admitted waves runs place gate at_place;
  }

  all_covered : AreCovered (first_signals circuit admit cube)
  all_covered =
      let inputs = inputs_covered (length circuit.netlist.inputs) (omega arith) in
      let from : length (inputs_to admit cube circuit.moments (length circuit.netlist.inputs) (length circuit.netlist.inputs)) ≡ first_output circuit = omega (arith, inputs.1) in
      gates_covered (inputs_to admit cube circuit.moments (length circuit.netlist.inputs) (length circuit.netlist.inputs)) circuit.gates inputs.0
      (λ j gate at_j. subst (λ (n : ℕ). IsGateWave gate (n + j)) (sym from) (gate_is j gate at_j))

  -- The first times are right for the run.
  pub first_right : AreAllTimes (first_times circuit admit cube) (level_bits circuit waves)
      (λ net. level_bits circuit waves net (rest_of (get_or (first_times circuit admit cube) net no_times)))
  unfolding wave
  first_right net it at_net =
      let found = map_at (first_signals circuit admit cube) net it at_net in
      let here : get_or (first_times circuit admit cube) net no_times ≡ it = slice_get-get (first_times circuit admit cube) net it no_times at_net in
      let right : AreTimes it (level_bits circuit waves net) (level_bits circuit waves net (rest_of it)) =
      subst (λ (t : Times). AreTimes t (level_bits circuit waves net) (level_bits circuit waves net (rest_of t))) found.2
      (covered_right (wave net) (boolean net) found.0 (all_covered net found.0 found.1)) in
      subst (λ (t : Times). AreTimes it (level_bits circuit waves net) (level_bits circuit waves net (rest_of t))) (sym here) right

pub inputs_length : (admit : Admitted) (cube : List Trit) (moments : List ℕ) (inputs count : ℕ) → length (inputs_to admit cube moments inputs count) ≡ 2 + count
inputs_length admit cube moments inputs zero = refl
inputs_length admit cube moments inputs (suc count) =
    let rest = inputs_length admit cube moments inputs count in
    let here = length-append (inputs_to admit cube moments inputs count) (input_at admit cube moments inputs count ∷ []) in
    omega (arith, rest, here)

gates_length : (signals : List Signal) (gates : List NumberedGate) → length (gates_from signals gates) ≡ length signals + length gates
gates_length signals [] = omega arith
gates_length signals (gate ∷ gates) =
    let rest = gates_length (signals ++ output_signal signals gate ∷ []) gates in
    let here = length-append signals (output_signal signals gate ∷ []) in
    omega (arith, rest, here)

-- There are signals for each net.
pub length_signals : (circuit : Numbered) (admit : Admitted) (cube : List Trit) → length (first_signals circuit admit cube) ≡ first_output circuit + length circuit.gates
length_signals circuit admit cube =
    let one = inputs_length admit cube circuit.moments (length circuit.netlist.inputs) (length circuit.netlist.inputs) in
    let two = gates_length (inputs_to admit cube circuit.moments (length circuit.netlist.inputs) (length circuit.netlist.inputs)) circuit.gates in
    omega (arith, one, two)

-- There are times for each net.
pub length_first : (circuit : Numbered) (admit : Admitted) (cube : List Trit) → length (first_times circuit admit cube) ≡ first_output circuit + length circuit.gates
length_first circuit admit cube = length-map (first_signals circuit admit cube) times_from ∙ length_signals circuit admit cube
