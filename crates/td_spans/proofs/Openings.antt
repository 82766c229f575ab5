-- Openings: the first times are those that the signals of edges give, net by net.
use Rattle.std.proofs.Common.{◌≡◌, ℕ, zero, suc, ◌+◌, ◌-◌, ◌<◌, true, false, List, [], ◌∷◌, ◌++◌, length, refl, arith, ap, sym, ◌∙◌, subst, inl, inr, Some}
use Rattle.std.specs.Prelude.{slice_get, filter_map}
use Rattle.std.specs.List.{AllByRecursion}
use Rattle.std.proofs.lemmas.Bool.{cases_eq}
use Rattle.std.proofs.lemmas.List.{length-append}
use Rattle.std.proofs.lemmas.List.Elements.{recursion_from_All}
use Rattle.std.proofs.lemmas.Option.{slice_get-get_or}
use Rattle.td_gates.proofs.Places.{slice_get-append_left, slice_get-append_right, slice_get-within}
use Rattle.td_circuit.specs.Numbering.{NumberedGate, Numbered, IsNumbering, first_output}
use Rattle.td_circuit.proofs.Nets.{lower-at}
use Rattle.td_domain.specs.declared.cubes.Trit.{Trit}
use Rattle.td_domain.specs.Admits.{Admitted}
use Rattle.td_edges.specs.declared.signals.Signal.{Signal}
use Rattle.td_edges.specs.EdgeSignals.{constant_signal, gate_signal}
use Rattle.td_spans.specs.Lookups.{no_gate, driver}
use Rattle.td_spans.specs.Signals.{input_at, inputs_to, output_signal, gates_from, first_signals, first_times}
use Rattle.td_spans.specs.Opening.{AreEdges, AreFirst}
use Rattle.td_spans.proofs.Edges.{length_signals}

-- what there is stays
old_stays : (times : List Signal) (gates : List NumberedGate) (i : ℕ) (it : Signal) → slice_get times i ≡ Some it → slice_get (gates_from times gates) i ≡ Some it
old_stays times [] i it at = at
old_stays times (gate ∷ gates) i it at =
    old_stays (times ++ output_signal times gate ∷ []) gates i it
    (slice_get-append_left times (output_signal times gate ∷ []) i it at)

same_inputs : (times after : List Signal) (inputs : List ℕ) → ((i : ℕ) (it : Signal) → slice_get times i ≡ Some it → slice_get after i ≡ Some it)
    → AllByRecursion (λ n. n < length times) inputs → filter_map (slice_get times) inputs ≡ filter_map (slice_get after) inputs
same_inputs times after [] stays lows = refl
same_inputs times after (i ∷ inputs) stays lows =
    let it = slice_get-within times i lows.0 in
    rw (it.1, stays i it.0 it.1) (ap (λ (rest : List Signal). it.0 ∷ rest) (same_inputs times after inputs stays lows.1))

-- a gate's output has the times by its rule
made_so : (times : List Signal) (gates : List NumberedGate) (j : ℕ) (gate : NumberedGate) → slice_get gates j ≡ Some gate
    → ((k : ℕ) (other : NumberedGate) → slice_get gates k ≡ Some other → AllByRecursion (λ n. n < length times + k) other.inputs)
    → slice_get (gates_from times gates) (length times + j) ≡ Some (output_signal (gates_from times gates) gate)
made_so times [] j gate at lows = cc
made_so times (first ∷ gates) zero gate at lows =
    let made : Signal = output_signal times first in
    let none : length times + 0 ≡ length times = omega arith in
    let is : first ≡ gate = cc in
    let here : slice_get (times ++ made ∷ []) (length times + 0) ≡ Some made = slice_get-append_right times (made ∷ []) 0 (length times + 0) refl in
    let stays = old_stays (times ++ made ∷ []) gates (length times + 0) made here in
    let under : AllByRecursion (λ n. n < length times) first.inputs = subst (λ (m : ℕ). AllByRecursion (λ n. n < m) first.inputs) none (lows 0 first refl) in
    let same = same_inputs times (gates_from times (first ∷ gates)) first.inputs (λ i it at. old_stays times (first ∷ gates) i it at) under in
    stays ∙ ap (λ (ss : List Signal). Some (gate_signal first.kind first.delay ss)) same
    ∙ ap (λ (g : NumberedGate). Some (output_signal (gates_from times (first ∷ gates)) g)) is
made_so times (first ∷ gates) (suc j) gate at lows =
    let made : Signal = output_signal times first in
    let long : length (times ++ made ∷ []) ≡ length times + 1 = length-append times (made ∷ []) in
    let place : length (times ++ made ∷ []) + j ≡ length times + suc j = omega (arith, long) in
    subst (λ (n : ℕ). slice_get (gates_from times (first ∷ gates)) n ≡ Some (output_signal (gates_from times (first ∷ gates)) gate)) place
    (made_so (times ++ made ∷ []) gates j gate at
    (λ k other at_k.
    let next : length times + suc k ≡ length (times ++ made ∷ []) + k = omega (arith, long) in
    subst (λ (m : ℕ). AllByRecursion (λ n. n < m) other.inputs) next (lows (suc k) other at_k)))

inputs_long : (admit : Admitted) (cube : List Trit) (moments : List ℕ) (inputs count : ℕ) → length (inputs_to admit cube moments inputs count) ≡ 2 + count
inputs_long admit cube moments inputs zero = refl
inputs_long admit cube moments inputs (suc count) =
    let rest = inputs_long admit cube moments inputs count in
    let here = length-append (inputs_to admit cube moments inputs count) (input_at admit cube moments inputs count ∷ []) in
    omega (arith, rest, here)

input_so : (admit : Admitted) (cube : List Trit) (moments : List ℕ) (inputs count i : ℕ) → i < count
    → slice_get (inputs_to admit cube moments inputs count) (2 + i) ≡ Some (input_at admit cube moments inputs i)
input_so admit cube moments inputs zero i low = absurd (omega arith)
input_so admit cube moments inputs (suc count) i low = elim (cases_eq i count) [
  | inl last ↦
      let long = inputs_long admit cube moments inputs count in
      subst (λ (k : ℕ). slice_get (inputs_to admit cube moments inputs (suc count)) (2 + k) ≡ Some (input_at admit cube moments inputs k)) (sym last)
      (slice_get-append_right (inputs_to admit cube moments inputs count) (input_at admit cube moments inputs count ∷ []) 0 (2 + count) (omega (arith, long)))
  | inr early ↦ slice_get-append_left (inputs_to admit cube moments inputs count) (input_at admit cube moments inputs count ∷ []) (2 + i) (input_at admit cube moments inputs i)
      (input_so admit cube moments inputs count i (omega arith))
]

low_so : (admit : Admitted) (cube : List Trit) (moments : List ℕ) (inputs count : ℕ) → slice_get (inputs_to admit cube moments inputs count) 0 ≡ Some (constant_signal false)
low_so admit cube moments inputs zero = refl
low_so admit cube moments inputs (suc count) =
    slice_get-append_left (inputs_to admit cube moments inputs count) (input_at admit cube moments inputs count ∷ []) 0 (constant_signal false) (low_so admit cube moments inputs count)

high_so : (admit : Admitted) (cube : List Trit) (moments : List ℕ) (inputs count : ℕ) → slice_get (inputs_to admit cube moments inputs count) 1 ≡ Some (constant_signal true)
high_so admit cube moments inputs zero = refl
high_so admit cube moments inputs (suc count) =
    slice_get-append_left (inputs_to admit cube moments inputs count) (input_at admit cube moments inputs count ∷ []) 1 (constant_signal true) (high_so admit cube moments inputs count)

-- The signals are those of edges.
are_edges : (circuit : Numbered) → IsNumbering circuit → (admit : Admitted) (cube : List Trit) → AreEdges circuit admit cube (first_signals circuit admit cube)
are_edges circuit numbering admit cube =
    let begin : List Signal = inputs_to admit cube circuit.moments (length circuit.netlist.inputs) (length circuit.netlist.inputs) in
    let long : length (inputs_to admit cube circuit.moments (length circuit.netlist.inputs) (length circuit.netlist.inputs)) ≡ first_output circuit =
    let it = inputs_long admit cube circuit.moments (length circuit.netlist.inputs) (length circuit.netlist.inputs) in omega (arith, it) in
    record {
      whole = length_signals circuit admit cube;
      low = old_stays begin circuit.gates 0 (constant_signal false) (low_so admit cube circuit.moments (length circuit.netlist.inputs) (length circuit.netlist.inputs));
      high = old_stays begin circuit.gates 1 (constant_signal true) (high_so admit cube circuit.moments (length circuit.netlist.inputs) (length circuit.netlist.inputs));
      inputs = λ i low. old_stays begin circuit.gates (2 + i) (input_at admit cube circuit.moments (length circuit.netlist.inputs) i)
          (input_so admit cube circuit.moments (length circuit.netlist.inputs) (length circuit.netlist.inputs) i low);
      gates = λ net driven.
          let first = driven.0 in
          let here : slice_get circuit.gates (net - first_output circuit) ≡ Some (driver circuit net) = slice_get-get_or circuit.gates (net - first_output circuit) no_gate driven.1 in
          let place : length (inputs_to admit cube circuit.moments (length circuit.netlist.inputs) (length circuit.netlist.inputs)) + (net - first_output circuit) ≡ net = omega (arith, long, first) in
          subst (λ (n : ℕ). slice_get (first_signals circuit admit cube) n ≡ Some (output_signal (first_signals circuit admit cube) (driver circuit net))) place
          (made_so (inputs_to admit cube circuit.moments (length circuit.netlist.inputs) (length circuit.netlist.inputs)) circuit.gates (net - first_output circuit) (driver circuit net) here
          (λ k other at.
          subst (λ (m : ℕ). AllByRecursion (λ n. n < m + k) other.inputs) (sym long)
          (recursion_from_All (λ n. n < first_output circuit + k) other.inputs (lower-at circuit numbering k other at))));
    }

-- The first times are those that the signals of edges give.
pub are_first : (circuit : Numbered) → IsNumbering circuit → (admit : Admitted) (cube : List Trit) → AreFirst circuit admit cube (first_times circuit admit cube)
are_first circuit numbering admit cube = record {
  signals = first_signals circuit admit cube;
  are = are_edges circuit numbering admit cube;
  is = refl;
}
