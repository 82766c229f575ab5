-- What is read of a text, from the whole netlist and the outputs that are asked about.
use Rattle.std.proofs.Common.{ℕ, List, [], ◌∷◌, refl, sym, subst, Option, Some, None}
use Rattle.td_gates.proofs.Places.{slice_get-some}
use Rattle.td_nets.specs.Netlist.{Netlist}
use Rattle.td_netlist.specs.Means.{Means}
use Rattle.td_circuit.specs.declared.building.BuildFault.{BuildFault}
use Rattle.td_circuit.specs.declared.building.BuildFault.TheVariants as build
use Rattle.td_circuit.specs.Built.{FitsBuildFault}
use Rattle.td_circuit.specs.Loops.{Loop}
use Rattle.td_reading.specs.declared.reading.Reading.{Reading as Read}
use Rattle.td_source.specs.declared.fault.SourceFault.{SourceFault}
use Rattle.td_source.specs.Kept.{AreOutputs, AreNumbers, HasOutputs}
use Rattle.td_source.specs.Reads.{ArePlaces, IsAskedAbout, AreOutputsIn, ReadsNetlist, HasCircuit}
use Rattle.td_source.specs.Faults.{IsOfLoop, IsSourceFault}
use Rattle.td_source.proofs.Asked.{outputs_exist, lies_too, acyclic_too}

places_fit : (netlist : Netlist) (words : List (List ℕ)) (places : List ℕ) → ArePlaces netlist words places → AreOutputs netlist places
places_fit netlist words places are = record {
  rising = are.rising;
  within = λ place has. (let named = (are.named place).0 has in slice_get-some netlist.outputs place named.2.output named.2.stands);
}

-- the outputs that words name are a netlist's
pub numbers_fit : (netlist : Netlist) (words : List (List ℕ)) (outputs : Option (List ℕ)) → AreOutputsIn netlist words outputs → AreNumbers netlist outputs
numbers_fit netlist [] outputs are = subst (λ (o : Option (List ℕ)). AreNumbers netlist o) (sym are) tt
numbers_fit netlist (word ∷ words) outputs are =
    subst (λ (o : Option (List ℕ)). AreNumbers netlist o) (sym are.1) (places_fit netlist (word ∷ words) are.0 are.2)

pub asked_about : (whole : Netlist) (words : List (List ℕ)) (outputs : Option (List ℕ)) (netlist : Netlist) → AreOutputsIn whole words outputs
    → HasOutputs whole outputs netlist → IsAskedAbout whole words netlist
asked_about whole [] outputs netlist are has = subst (λ (o : Option (List ℕ)). HasOutputs whole o netlist) are has
asked_about whole (word ∷ words) outputs netlist are has =
    (are.0, are.2, subst (λ (o : Option (List ℕ)). HasOutputs whole o netlist) are.1 has)

-- and a netlist that is asked about has those outputs
pub outputs_asked : (whole : Netlist) (words : List (List ℕ)) (netlist : Netlist) → IsAskedAbout whole words netlist
    → (outputs : Option (List ℕ)) × AreOutputsIn whole words outputs × HasOutputs whole outputs netlist
outputs_asked whole [] netlist asked = (None, refl, asked)
outputs_asked whole (word ∷ words) netlist asked = (Some asked.0, (asked.0, refl, asked.1), asked.2)

pub reads_whole : (text : List ℕ) (reading : Read) (whole : Netlist) (outputs : Option (List ℕ)) (netlist : Netlist) → Means text reading.default whole
    → AreOutputsIn whole reading.outputs outputs → HasOutputs whole outputs netlist → ReadsNetlist text reading netlist
reads_whole text reading whole outputs netlist means are has =
    record { whole = whole; means = means; asked = asked_about whole reading.outputs outputs netlist are has }

pub circuit_whole : (text : List ℕ) (reading : Read) (whole : Netlist) (outputs : Option (List ℕ)) (netlist : Netlist) → Means text reading.default whole
    → (¬ Loop whole) → AreOutputsIn whole reading.outputs outputs → HasOutputs whole outputs netlist → HasCircuit text reading netlist
circuit_whole text reading whole outputs netlist means acyclic are has = record {
  reads = reads_whole text reading whole outputs netlist means are has;
  acyclic = acyclic_too whole outputs netlist has acyclic;
}

-- what a loop is to whoever asked for a circuit
pub looped_fits : (text : List ℕ) (reading : Read) (whole : Netlist) (outputs : Option (List ℕ)) → Means text reading.default whole
    → AreOutputsIn whole reading.outputs outputs → (built : BuildFault) (refused : SourceFault)
    → IsOfLoop built refused → FitsBuildFault whole built → IsSourceFault text reading refused
looped_fits text reading whole outputs means are build.OutOfMemory refused is fits =
    let P : SourceFault → Type 0 = λ r. IsSourceFault text reading r in subst P (sym is) tt
looped_fits text reading whole outputs means are (build.Loop name) refused is fits =
    let P : SourceFault → Type 0 = λ r. IsSourceFault text reading r in
    let asked = outputs_exist whole outputs (numbers_fit whole reading.outputs outputs are) in
    subst P (sym is) (asked.0, reads_whole text reading whole outputs asked.0 means are asked.1, lies_too whole outputs asked.0 _ asked.1 fits)
