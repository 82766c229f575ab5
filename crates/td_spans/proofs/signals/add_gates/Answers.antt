use Rattle.td_circuit.specs.Views.{gate_of}
use Rattle.td_circuit.proofs.Nets.{takes-at, lower-at}
use Rattle.td_domain.proofs.FrontLemmas.{terminals-at}
use Rattle.td_spans.proofs.Fronts.{gate_stands, reads_small, gates_kept}
use Rattle.td_spans.proofs.signals.add_gates.Goals as goal

pub gate-requires-clause-places : goal.gate-requires-clause-places
gate-requires-clause-places c =
    let stands = gate_stands _ _ _ _ c.gates-gate-items.ensures.gates c.loop-gate-test.true c.gate-item.is in
    rw (c.deref-in-loop-gate.ensures.value, c.deref.ensures.value, c.loop-gate.invariant.count)
    (lower-at c.args.circuit.now c.gates-gate-items.ensures.numbering c.loop-gate.gate-index (gate_of c.gate-item.result) stands)

pub gate-requires-clause-takes : goal.gate-requires-clause-takes
gate-requires-clause-takes c =
    let stands = gate_stands _ _ _ _ c.gates-gate-items.ensures.gates c.loop-gate-test.true c.gate-item.is in
    rw c.deref-in-loop-gate.ensures.value (takes-at c.args.circuit.now c.gates-gate-items.ensures.numbering _ _ stands)

pub gate-requires-clause-few : goal.gate-requires-clause-few
gate-requires-clause-few c =
    let stands = gate_stands _ _ _ _ c.gates-gate-items.ensures.gates c.loop-gate-test.true c.gate-item.is in
    rw c.deref-in-loop-gate.ensures.value (terminals-at c.args.circuit.now c.gates-gate-items.ensures.numbering _ _ stands)

pub gate-requires-clause-within : goal.gate-requires-clause-within
gate-requires-clause-within c =
    let stands = gate_stands _ _ _ _ c.gates-gate-items.ensures.gates c.loop-gate-test.true c.gate-item.is in
    rw (c.deref.ensures.value, c.deref-in-loop-gate.ensures.value)
    (reads_small c.args.circuit.now c.gates-gate-items.ensures.numbering c.loop-gate.signals.items c.loop-gate.gate-index (gate_of c.gate-item.result) stands
    c.loop-gate.invariant.near)

pub loop-gate-preserved : goal.loop-gate-preserved
loop-gate-preserved c =
    let stands = gate_stands _ _ _ _ c.gates-gate-items.ensures.gates c.loop-gate-test.true c.gate-item.is in
    let kept = gates_kept c.args.circuit.now c.gates-gate-items.ensures.numbering c.loop-gate.signals.items c.loop-gate.gate-index (gate_of c.gate-item.result) stands
    c.loop-gate.invariant.near _ _ _ c.loop-gate.invariant.count (rw (c.deref.ensures.value, c.deref-in-loop-gate.ensures.value) at c.in_ok-signal.ensures)
    c.in_ok-push.ensures.items c.loop-gate.invariant.is in
    record { is = kept.0; count = kept.1; near = kept.2 }
