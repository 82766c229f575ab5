use Rattle.std.proofs.Common.{◌≡◌, ◌∙◌, ◌+◌, ◌<◌, ℕ, List, length, map, Some, arith, sym, ap, subst, refl}
use Rattle.std.specs.Prelude.{slice_get}
use Rattle.std.specs.List.{Contains}
use Rattle.std.proofs.lemmas.List.{length-map}
use Rattle.td_gates.proofs.Places.{some-same}
use Rattle.td_circuit.specs.declared.circuit.Gate as code
use Rattle.td_circuit.specs.Views.{gate_of}
use Rattle.td_circuit.specs.Numbering.{NumberedGate, first_output}
use Rattle.td_circuit.proofs.Nets.{lower-at, length-nets}
use Rattle.td_domain.proofs.Coning.{at_place}
use Rattle.td_domain.proofs.Settling.{set-known}
use Rattle.td_domain.proofs.redoing.redo_gate.Goals as goal

-- the gate that stands at the place
releasable : (gates : List code.Gate) (of_circuit : List NumberedGate) (place : ℕ) (gate : code.Gate) → map gate_of gates ≡ of_circuit
    → place < length of_circuit → (place < length gates → slice_get of_circuit place ≡ Some (gate_of gate)) → slice_get of_circuit place ≡ Some (gate_of gate)
releasable gates of_circuit place gate same within at = at (omega (arith, sym (length-map gates gate_of) ∙ ap length same))

pub reads_one-requires : goal.reads_one-requires
reads_one-requires g c =
    let stands = releasable _ _ _ c.index-gates-place.result c.gates-gates.ensures.gates c.requires.place (λ h. at_place _ _ _ _ c.gates-gates.ensures.gates h c.index-gates-place.is) in
    rw c.deref.ensures.value (λ k d less.
    let lower = lower-at c.args.circuit.now c.gates-gates.ensures.numbering _ _ stands k d less in
    omega (arith, lower, c.requires.place, c.requires.marks, c.requires.count, length-nets c.args.circuit.now c.gates-gates.ensures.numbering))

pub returns-else-reads_one-clause-gate : goal.returns-else-reads_one-clause-gate
returns-else-reads_one-clause-gate g c = λ gate at.
    let stands = releasable _ _ _ c.index-gates-place.result c.gates-gates.ensures.gates c.requires.place (λ h. at_place _ _ _ _ c.gates-gates.ensures.gates h c.index-gates-place.is) in
    let same : gate_of c.index-gates-place.result ≡ gate = some-same (gate_of c.index-gates-place.result) gate (sym stands ∙ at) in
    sym (set-known c.args.signals.now (first_output c.args.circuit.now + c.args.place) _
    (c.requires.settled c.args.place gate at (λ net has. c.if-reads_one.ensures.none refl net
    (rw c.deref.ensures.value (subst (λ (it : NumberedGate). Contains it.inputs net) (sym same) has)))))
