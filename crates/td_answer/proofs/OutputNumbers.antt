-- The numbers by which conditions name nets.
use Rattle.std.proofs.Common.{◌≡◌, ◌∙◌, ℕ, zero, suc, ◌+◌, ◌-◌, ◌<◌, ◌≤◌, List, [], ◌∷◌, length, get_or, Some, refl, sym, ap, subst, arith, inl, inr}
use Rattle.std.specs.Prelude.{slice_get, map}
use Rattle.std.proofs.lemmas.Bool.{lt-ltb, le-ltb}
use Rattle.std.proofs.lemmas.List.{length-map}
use Rattle.td_gates.proofs.Places.{some-same, slice_get-some, slice_get-within, slice_get-map_some, Contains-slice_get}
use Rattle.td_nets.specs.Netlist.{Name, Net, Low, High, Named, Gate, Netlist}
use Rattle.td_circuit.specs.Numbering.{Numbered, nets, first_output, IsNumbering}
use Rattle.td_circuit.proofs.Looping.{output_number}
use Rattle.td_circuit.proofs.Nets.{length-nets, gate_at}
use Rattle.td_spans.specs.Lookups.{net_named}
use Rattle.td_refutation.specs.Asking.{net_at}
use Rattle.td_refutation.proofs.Asking.{net_is_at}
use Rattle.td_answer.specs.Columns.{IsOnlyOutput}

module _ (circuit : Numbered) (numbering : IsNumbering circuit) where
  -- a net that is no constant's and no input's is a gate's
  pub placed : (n : ℕ) → first_output circuit ≤ n → n < length (nets circuit) → (p : ℕ) × (slice_get circuit.gate_outputs p ≡ Some n)
  placed n high within =
      let place : ℕ = n - first_output circuit in
      let there : first_output circuit + place ≡ n = omega (arith, high) in
      let numbered = slice_get-within circuit.gates place (omega (arith, within, high, length-nets circuit numbering)) in
      let gate = gate_at circuit numbering place numbered.0 numbered.1 in
      let here = Contains-slice_get circuit.netlist.gates gate.0 gate.2 in
      let net = slice_get-map_some (λ (g : Gate). Named g.output) circuit.netlist.gates here.0 gate.0 here.1 in
      let number = slice_get-within circuit.gate_outputs here.0
      (omega (arith, numbering.gate_outputs.count, slice_get-some (map (λ (g : Gate). Named g.output) circuit.netlist.gates) here.0 (Named gate.0.output) net)) in
      let at = numbering.gate_outputs.each here.0 number.0 (Named gate.0.output) number.1 net in
      let this : slice_get (nets circuit) n ≡ Some (Named gate.0.output) =
      subst (λ (m : ℕ). slice_get (nets circuit) m ≡ Some (Named gate.0.output)) there (output_number circuit place gate.0 gate.1) in
      (here.0, number.1 ∙ ap (λ (m : ℕ). Some m) (numbering.distinct number.0 n (Named gate.0.output) at this))

  pub named_low : (net : ℕ) (name : Name) → net < first_output circuit → slice_get (nets circuit) net ≡ Some (Named name)
      → net_at circuit.netlist net ≡ Some (Named name)
  named_low net name low at =
      let it = net_is_at circuit numbering net net (rw (lt-ltb net (first_output circuit) low) refl) in
      it.there ∙ sym it.here ∙ at

  pub named_high : (place net number : ℕ) (name : Name) → slice_get circuit.gate_outputs place ≡ Some net → number ≡ first_output circuit + place
      → slice_get (nets circuit) net ≡ Some (Named name) → net_at circuit.netlist number ≡ Some (Named name)
  named_high place net number name stands is at =
      let here : net_named circuit number ≡ slice_get circuit.gate_outputs (number - first_output circuit) =
      rw (le-ltb number (first_output circuit) (omega (arith, is))) refl in
      let same : number - first_output circuit ≡ place = omega (arith, is) in
      let it = net_is_at circuit numbering number net (here ∙ ap (λ (p : ℕ). slice_get circuit.gate_outputs p) same ∙ stands) in
      it.there ∙ sym it.here ∙ at

-- a list of one element
pub only_one : (outputs : List Name) (name : Name) → length outputs ≡ 1 → slice_get outputs 0 ≡ Some name → outputs ≡ name ∷ []
only_one [] name one at = absurd (omega (arith, one))
only_one (output ∷ []) name one at = ap (λ (n : Name). n ∷ []) (some-same output name at)
only_one (output ∷ other ∷ outputs) name one at = absurd (omega (arith, one))
