use Rattle.std.proofs.Common.{◌∙◌, replicate, arith, ap}
use Rattle.std.proofs.lemmas.Option.{slice_get-get_or}
use Rattle.td_circuit.specs.Views.{gate_of}
use Rattle.td_circuit.proofs.Nets.{few_gates}
use Rattle.td_circuit.proofs.Gates.{numbered-at}
use Rattle.td_gates.proofs.Places.{slice_get-some}
use Rattle.td_info.specs.Depths.{greatest, depths_at}
use Rattle.td_info.proofs.Deep.{depths_none, depths_more, small_below, read_at}
use Rattle.td_info.proofs.depths.depths_of.Goals as goal

pub loop-gate-init : goal.loop-gate-init
loop-gate-init c = depths_none c.args.circuit.now c.gates-gates.ensures.numbering c.in_ok-depths.depths.items
    (c.in_ok-depths.ensures.items_if_clones_equal (λ y is. is) ∙ ap (λ n. replicate n 0) c.first_gate.ensures)

pub deepest_of-below-requires : goal.deepest_of-below-requires
deepest_of-below-requires c =
    let stands = numbered-at c.gates-gates.result.now c.args.circuit.now.gates c.loop-gate.gate-index c.gate-item.result c.gates-gates.ensures.gates
    c.loop-gate-test.true c.gate-item.is in
    rw (c.deref.ensures.value, c.deref-in-loop-gate.ensures.value) (λ k d less.
    (read_at c.args.circuit.now c.gates-gates.ensures.numbering c.loop-gate.depths.items c.loop-gate.gate-index c.loop-gate.invariant
    (gate_of c.gate-item.result) stands k _ (slice_get-get_or c.gate-item.result.inputs.items k d less)).0)

pub overflow_add-below : goal.overflow_add-below
overflow_add-below c =
    let stands = numbered-at c.gates-gates.result.now c.args.circuit.now.gates c.loop-gate.gate-index c.gate-item.result c.gates-gates.ensures.gates
    c.loop-gate-test.true c.gate-item.is in
    let small = small_below c.args.circuit.now c.gates-gates.ensures.numbering c.loop-gate.depths.items c.loop-gate.gate-index c.loop-gate.invariant
    (gate_of c.gate-item.result) stands in
    let few = few_gates c.args.circuit.now c.gates-gates.ensures.numbering in
    let below = c.deepest_of-below.ensures ∙ (λ i. greatest (depths_at (c.deref.ensures.value i) (c.deref-in-loop-gate.ensures.value i))) in
    let less = slice_get-some c.args.circuit.now.gates c.loop-gate.gate-index _ stands in
    omega (arith, below, small, few, less)

pub loop-gate-preserved : goal.loop-gate-preserved
loop-gate-preserved c =
    let stands = numbered-at c.gates-gates.result.now c.args.circuit.now.gates c.loop-gate.gate-index c.gate-item.result c.gates-gates.ensures.gates
    c.loop-gate-test.true c.gate-item.is in
    rw (c.in_ok-push.ensures.items, c.deepest_of-below.ensures, c.deref.ensures.value, c.deref-in-loop-gate.ensures.value)
    (depths_more c.args.circuit.now c.gates-gates.ensures.numbering c.loop-gate.depths.items c.loop-gate.gate-index c.loop-gate.invariant
    (gate_of c.gate-item.result) stands)
