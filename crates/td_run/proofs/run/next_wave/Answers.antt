use Rattle.std.proofs.Common.{◌≡◌, ◌<◌, ◌≤◌, ◌+◌, ◌*◌, ◌∙◌, sym, subst, arith, Some, length}
use Rattle.std.specs.Prelude.{slice_get}
use Rattle.std.specs.List.{All}
use Rattle.std.proofs.lemmas.Result.{IfOk-weaker}
use Rattle.td_gates.specs.Wave.{Wave}
use Rattle.td_gates.specs.Schedule.{Obeys}
use Rattle.td_gates.proofs.Places.{some-same}
use Rattle.td_circuit.specs.Numbering.{NumberedGate}
use Rattle.td_circuit.specs.Views.{gate_of}
use Rattle.td_circuit.proofs.Nets.{takes-at, few-at, lower-at, few_gates}
use Rattle.td_run.proofs.Placed.{gate_at_place}
use Rattle.td_run.proofs.Gates.{waves_of-within, far_below}
use Rattle.td_run.specs.Waves.{AreWithin, waves_of}
use Rattle.td_run.proofs.run.next_wave.Goals as goal

at_place : (c : goal.After-deref) → slice_get c.args.circuit.now.gates c.args.place ≡ Some (gate_of c.index-gates-place.result)
at_place c = gate_at_place c.gates-gates.result.now c.args.circuit.now.gates c.args.place c.index-gates-place.result c.gates-gates.ensures.gates c.requires.place c.index-gates-place.is

below : (c : goal.After-deref) → All (λ n. n < length c.args.waves.now) c.index-gates-place.result.inputs.items
below c = rw c.requires.count (lower-at c.args.circuit.now c.gates-gates.ensures.numbering c.args.place (gate_of c.index-gates-place.result) (at_place c))

few : (c : goal.After-deref) → c.args.place < 200000
few c = omega (arith, c.requires.place, few_gates c.args.circuit.now c.gates-gates.ensures.numbering)

pub gate_wave-requires-clause-takes : goal.gate_wave-requires-clause-takes
gate_wave-requires-clause-takes c =
    rw c.deref.ensures.value (takes-at c.args.circuit.now c.gates-gates.ensures.numbering c.args.place (gate_of c.index-gates-place.result) (at_place c))

pub gate_wave-requires-clause-few : goal.gate_wave-requires-clause-few
gate_wave-requires-clause-few c =
    let count : length c.deref.result.now ≤ 1023 = rw c.deref.ensures.value (few-at c.args.circuit.now c.gates-gates.ensures.numbering c.args.place (gate_of c.index-gates-place.result) (at_place c)) in
    omega (arith, count)

pub gate_wave-requires-clause-numbers : goal.gate_wave-requires-clause-numbers
gate_wave-requires-clause-numbers c = rw c.deref.ensures.value (below c)

pub gate_wave-requires-clause-within : goal.gate_wave-requires-clause-within
gate_wave-requires-clause-within c = rw c.deref.ensures.value
    (far_below c.args.place c.args.waves.now c.index-gates-place.result.inputs.items (few c) c.requires.within (below c))

pub returns-clause-obeys : goal.returns-clause-obeys
returns-clause-obeys c =
    let own = gate_of c.index-gates-place.result in
    let placed = gate_at_place c.gates-gates.result.now c.args.circuit.now.gates c.args.place c.index-gates-place.result c.gates-gates.ensures.gates c.requires.place c.index-gates-place.is in
    IfOk-weaker c.gate_wave.result _ _ (λ (wave : Wave) (h : Obeys own.kind own.delay (waves_of c.args.waves.now own.inputs) wave) (gate : NumberedGate) at.
    subst (λ (g : NumberedGate). Obeys g.kind g.delay (waves_of c.args.waves.now g.inputs) wave)
    (some-same own gate (sym placed ∙ at)) h)
    (rw c.deref.ensures.value at c.gate_wave.ensures.obeys)

pub returns-clause-within : goal.returns-clause-within
returns-clause-within c =
    let bound = (c.args.place + 1) * 1000000000 in
    let placed = gate_at_place c.gates-gates.result.now c.args.circuit.now.gates c.args.place c.index-gates-place.result c.gates-gates.ensures.gates c.requires.place c.index-gates-place.is in
    let low : All (λ n. n < length c.args.waves.now) c.index-gates-place.result.inputs.items =
    rw c.requires.count (lower-at c.args.circuit.now c.gates-gates.ensures.numbering c.args.place (gate_of c.index-gates-place.result) placed) in
    let inputs : All (λ (w : Wave). AreWithin bound w.changes) (waves_of c.args.waves.now c.deref.result.now) =
    rw c.deref.ensures.value (waves_of-within bound c.args.waves.now c.index-gates-place.result.inputs.items c.requires.within low) in
    c.gate_wave.ensures.within bound inputs
