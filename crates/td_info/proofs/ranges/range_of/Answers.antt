use Rattle.std.proofs.Common.{◌∙◌, ◌+◌, Some, drop, sym, ap, arith, length}
use Rattle.std.proofs.lemmas.List.{length-map}
use Rattle.td_circuit.specs.Views.{gate_of}
use Rattle.td_circuit.proofs.Gates.{numbered-at}
use Rattle.td_info.specs.Ranges.{ranged}
use Rattle.td_info.proofs.Wide.{range_end, range_is, range_more}
use Rattle.td_info.proofs.ranges.range_of.Goals as goal

pub loop-gate-preserved : goal.loop-gate-preserved
loop-gate-preserved c =
    let stands = numbered-at c.gates-gates.result.now c.args.circuit.now.gates c.loop-gate.gate-index c.gate-item.result c.gates-gates.ensures.gates
    c.loop-gate-test.true c.gate-item.is in
    ap (λ r. ranged (Some r) (drop (c.loop-gate.gate-index + 1) c.args.circuit.now.gates)) c.widened.ensures
    ∙ sym (range_more c.loop-gate.range c.args.circuit.now.gates c.loop-gate.gate-index (gate_of c.gate-item.result) stands)
    ∙ c.loop-gate.invariant

pub returns : goal.returns
returns c =
    let long = length-map c.gates-gates.result.now gate_of in
    let same = ap length c.gates-gates.ensures.gates in
    range_is c.args.circuit.now c.gates-gates.ensures.numbering c.loop-gate.range
    (sym (range_end c.loop-gate.range c.args.circuit.now.gates c.loop-gate.gate-index (omega (arith, long, same, c.loop-gate-test.false)))
    ∙ c.loop-gate.invariant)
