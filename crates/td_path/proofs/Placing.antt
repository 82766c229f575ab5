-- The places in the netlist of the gates in the circuit's order.
use Rattle.std.proofs.Common.{◌≡◌, ◌≢◌, ℕ, suc, ◌+◌, ◌-◌, ◌<◌, ◌≤◌, List, length, map, arith, ◌∙◌, sym, ap, subst, inl, inr, Some}
use Rattle.std.specs.Prelude.{slice_get, slice_set}
use Rattle.std.proofs.lemmas.Bool.{cases_eq}
use Rattle.std.proofs.lemmas.List.{length-map}
use Rattle.td_gates.proofs.Places.{some-same, slice_get-some, slice_get-within, slice_get-Contains, Contains-slice_get, slice_get-map_some, slice_get-set_same, slice_get-set_other}
use Rattle.td_nets.specs.Netlist.{Named, Gate}
use Rattle.td_circuit.specs.Numbering.{Numbered, first_output, IsNumbering}
use Rattle.td_circuit.proofs.Looping.{output_number}
use Rattle.td_circuit.proofs.Nets.{place_of}
use Rattle.td_path.specs.Walks.{ArePlaces}

-- the gate whose output has this number, in the netlist and in the order
pub record IsPlaced (circuit : Numbered) (place net : ℕ) : Type 0 where
  pub i : ℕ
  pub gate : Gate
  pub number : net ≡ first_output circuit + i
  pub below : i < length circuit.gates
  pub ordered : slice_get circuit.ordered i ≡ Some gate
  pub is_gate : slice_get circuit.netlist.gates place ≡ Some gate

-- the gates up to this one have their places
abbrev pub PlacedTo : Numbered → List ℕ → ℕ → Type 0
PlacedTo circuit places end = (i k : ℕ) → k < end → slice_get circuit.gate_outputs k ≡ Some (first_output circuit + i)
    → (place : ℕ) × (slice_get places i ≡ Some place) × (slice_get circuit.gate_outputs place ≡ Some (first_output circuit + i))

module _ (circuit : Numbered) (numbering : IsNumbering circuit) where
  pub placed_at : (place net : ℕ) → slice_get circuit.gate_outputs place ≡ Some net → IsPlaced circuit place net
  placed_at place net at_place =
      let outputs = map (λ (gate : Gate). Named gate.output) circuit.netlist.gates in
      let short = slice_get-some circuit.gate_outputs place net at_place in
      let long = length-map circuit.netlist.gates (λ (gate : Gate). Named gate.output) in
      let gate = slice_get-within circuit.netlist.gates place (omega (arith, short, numbering.gate_outputs.count, long)) in
      let named = numbering.gate_outputs.each place net (Named gate.0.output) at_place
      (slice_get-map_some (λ (g : Gate). Named g.output) circuit.netlist.gates place gate.0 gate.1) in
      let found = place_of circuit numbering gate.0 (slice_get-Contains circuit.netlist.gates place gate.0 gate.1) in
      record {
        i = found.0;
        gate = gate.0;
        number = numbering.distinct net (first_output circuit + found.0) (Named gate.0.output) named (output_number circuit found.0 gate.0 found.3);
        below = slice_get-some circuit.gates found.0 found.1 found.2;
        ordered = found.3;
        is_gate = gate.1;
      }

  placed_of : (i : ℕ) (gate : Gate) → slice_get circuit.ordered i ≡ Some gate
      → (k : ℕ) × (slice_get circuit.gate_outputs k ≡ Some (first_output circuit + i))
  placed_of i gate at_i =
      let here = Contains-slice_get circuit.netlist.gates gate (numbering.no_others gate (slice_get-Contains circuit.ordered i gate at_i)) in
      let short = slice_get-some circuit.netlist.gates here.0 gate here.1 in
      let long = length-map circuit.netlist.gates (λ (gate : Gate). Named gate.output) in
      let number = slice_get-within circuit.gate_outputs here.0 (omega (arith, short, numbering.gate_outputs.count, long)) in
      let named = numbering.gate_outputs.each here.0 number.0 (Named gate.output) number.1
      (slice_get-map_some (λ (g : Gate). Named g.output) circuit.netlist.gates here.0 gate here.1) in
      let same = numbering.distinct number.0 (first_output circuit + i) (Named gate.output) named (output_number circuit i gate at_i) in
      (here.0, number.1 ∙ ap (λ n. Some n) same)

  pub placed_more : (places : List ℕ) (end net : ℕ) → length places ≡ length circuit.gates
      → slice_get circuit.gate_outputs end ≡ Some net → PlacedTo circuit places end
      → PlacedTo circuit (slice_set places (net - first_output circuit) end) (suc end)
  placed_more places end net count at_end placed i k less at_k =
      let now = placed_at end net at_end in
      let back : net - first_output circuit ≡ now.i = omega (arith, now.number) in
      elim (cases_eq i now.i) [
        | inl same ↦ (
          end,
          rw (back, same) (slice_get-set_same places now.i end (omega (arith, now.below, count))),
          at_end ∙ ap (λ n. Some n) (omega (arith, now.number, same)),
        )
        | inr other ↦
            let apart : k ≢ end = λ equal.
            (let twice = some-same (first_output circuit + i) net (sym at_k ∙ ap (λ n. slice_get circuit.gate_outputs n) equal ∙ at_end) in
            other (omega (arith, twice, now.number))) in
            let old = placed i k (omega (arith, less, apart)) at_k in
            (old.0, subst (λ (p : ℕ). slice_get (slice_set places p end) i ≡ Some old.0) (sym back) (slice_get-set_other places now.i end i other ∙ old.1), old.2)
      ]

  pub placed_next : (places : List ℕ) (end net first more : ℕ) → first ≡ first_output circuit → more ≡ suc end
      → length places ≡ length circuit.gates → slice_get circuit.gate_outputs end ≡ Some net → PlacedTo circuit places end
      → PlacedTo circuit (slice_set places (net - first) end) more
  placed_next places end net first more p q count at_end placed =
      subst (λ (m : ℕ). PlacedTo circuit (slice_set places (net - first) end) m) (sym q)
      (subst (λ (f : ℕ). PlacedTo circuit (slice_set places (net - f) end) (suc end)) (sym p) (placed_more places end net count at_end placed))

  pub placed_all : (places : List ℕ) (end : ℕ) → length places ≡ length circuit.gates → length circuit.gate_outputs ≤ end
      → PlacedTo circuit places end → ArePlaces circuit places
  placed_all places end count all placed = record {
    count = count;
    each = λ i place gate at_i at_place.
        let here = placed_of i gate at_i in
        let short = slice_get-some circuit.gate_outputs here.0 (first_output circuit + i) here.1 in
        let found = placed i here.0 (omega (arith, short, all)) here.1 in
        let same : found.0 ≡ place = some-same found.0 place (sym found.1 ∙ at_place) in
        let placed_there = placed_at found.0 (first_output circuit + i) found.2 in
        let own : i ≡ placed_there.i = omega (arith, placed_there.number) in
        let equal : placed_there.gate ≡ gate =
        some-same placed_there.gate gate (sym placed_there.ordered ∙ ap (λ n. slice_get circuit.ordered n) (sym own) ∙ at_i) in
        subst (λ (p : ℕ). slice_get circuit.netlist.gates p ≡ Some gate) same (placed_there.is_gate ∙ ap (λ g. Some g) equal);
  }
