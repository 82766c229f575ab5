-- The outputs of a circuit by number and by name.
use Rattle.std.proofs.Common.{◌≡◌, ℕ, zero, suc, ◌<◌, length, get_or, refl, arith, sym, ap, ◌∙◌, Some}
use Rattle.std.specs.Prelude.{slice_get}
use Rattle.std.proofs.lemmas.List.{length-map}
use Rattle.td_gates.proofs.Places.{some-same, slice_get-some, slice_get-within, get-slice_get, slice_get-map_some}
use Rattle.td_nets.specs.Netlist.{Name, Low, High, Named}
use Rattle.td_circuit.specs.Numbering.{Numbered, nets, IsNumbering}
use Rattle.td_circuit.proofs.Sorting.{named_same}

-- an output of a circuit: its name, and its number, which is no constant's
pub record OutputAt (circuit : Numbered) (i : ℕ) : Type 0 where
  pub name : Name
  pub at : slice_get circuit.netlist.outputs i ≡ Some name
  pub net : slice_get (nets circuit) (get_or circuit.outputs i 0) ≡ Some (Named name)
  pub no_constant : 1 < get_or circuit.outputs i 0
  pub within : get_or circuit.outputs i 0 < length (nets circuit)

pub no_low : (circuit : Numbered) (n : ℕ) (name : Name) → slice_get (nets circuit) n ≡ Some (Named name) → 1 < n
no_low circuit zero name at = (let wrong : Low ≡ Named name = some-same Low (Named name) at in absurd cc)
no_low circuit (suc zero) name at = (let wrong : High ≡ Named name = some-same High (Named name) at in absurd cc)
no_low circuit (suc (suc n)) name at = omega arith

-- a net that has a name has a number that is no constant's
pub named_number : (circuit : Numbered) (number : ℕ) (name : Name) → slice_get (nets circuit) number ≡ Some (Named name)
    → (1 < number) × (number < length (nets circuit))
named_number circuit number name at = (no_low circuit number name at, slice_get-some (nets circuit) number (Named name) at)

-- a net has one name
pub one_name : (circuit : Numbered) (number : ℕ) (this that : Name) → slice_get (nets circuit) number ≡ Some (Named this)
    → slice_get (nets circuit) number ≡ Some (Named that) → this ≡ that
one_name circuit number this that at_this at_that = named_same this that (some-same (Named this) (Named that) (sym at_this ∙ at_that))

pub output_at : (circuit : Numbered) → IsNumbering circuit → (i : ℕ) → i < length circuit.outputs → OutputAt circuit i
output_at circuit numbering i within =
    let name = slice_get-within circuit.netlist.outputs i (omega (arith, numbering.outputs.count, length-map circuit.netlist.outputs (λ (n : Name). Named n))) in
    let number = get_or circuit.outputs i 0 in
    let there : slice_get circuit.outputs i ≡ Some (get_or circuit.outputs i 0) = get-slice_get circuit.outputs i 0 (get_or circuit.outputs i 0) within refl in
    let net = numbering.outputs.each i (get_or circuit.outputs i 0) (Named name.0) there (slice_get-map_some (λ n. Named n) circuit.netlist.outputs i name.0 name.1) in
    record {
      name = name.0;
      at = name.1;
      net = net;
      no_constant = no_low circuit (get_or circuit.outputs i 0) name.0 net;
      within = slice_get-some (nets circuit) (get_or circuit.outputs i 0) (Named name.0) net;
    }

-- the name that was found is the output's
pub output_named : (circuit : Numbered) → IsNumbering circuit → (i : ℕ) → i < length circuit.outputs → (name : Name)
    → slice_get (nets circuit) (get_or circuit.outputs i 0) ≡ Some (Named name) → slice_get circuit.netlist.outputs i ≡ Some name
output_named circuit numbering i less name at =
    let out = output_at circuit numbering i less in
    out.at ∙ ap (λ (n : Name). Some n) (one_name circuit (get_or circuit.outputs i 0) out.name name out.net at)

-- as many outputs as numbers
pub output_count : (circuit : Numbered) → IsNumbering circuit → length circuit.netlist.outputs ≡ length circuit.outputs
output_count circuit numbering = omega (arith, numbering.outputs.count, length-map circuit.netlist.outputs (λ (n : Name). Named n))
