use Rattle.td_nets.specs.Views.{name_of}
use Rattle.td_answer.proofs.OutputNets.{output_at}
use Rattle.td_answer.proofs.Ways.{none_next, found_named, none_named}
use Rattle.td_answer.proofs.path.output_named.Goals as goal

pub name-requires-clause-constant : goal.name-requires-clause-constant
name-requires-clause-constant c = rw c.outputs-output-items.ensures
    ((output_at c.args.circuit.now c.gates-gates.ensures.numbering c.loop-output.output-index (rw c.outputs-output-items.ensures at c.loop-output-test.true)).no_constant)

pub name-requires-clause-net : goal.name-requires-clause-net
name-requires-clause-net c = rw c.outputs-output-items.ensures
    ((output_at c.args.circuit.now c.gates-gates.ensures.numbering c.loop-output.output-index (rw c.outputs-output-items.ensures at c.loop-output-test.true)).within)

pub loop-output-preserved : goal.loop-output-preserved
loop-output-preserved c =
    none_next c.args.circuit.now c.gates-gates.ensures.numbering c.args.word.now c.loop-output.output-index (name_of c.name.result.now) c.in_ok-same.same
    (rw c.outputs-output-items.ensures at c.loop-output-test.true) (rw c.outputs-output-items.ensures at c.name.ensures) c.in_ok-same.ensures c.if-same.false
    c.loop-output.invariant

pub returns-then-same : goal.returns-then-same
returns-then-same c = rw c.outputs-output-items.ensures
    (found_named c.args.circuit.now c.gates-gates.ensures.numbering c.args.word.now c.loop-output.output-index (name_of c.name.result.now) c.in_ok-same.same
    (rw c.outputs-output-items.ensures at c.loop-output-test.true) (rw c.outputs-output-items.ensures at c.name.ensures) c.in_ok-same.ensures c.if-same.true)

pub returns : goal.returns
returns c =
    none_named c.args.circuit.now c.gates-gates.ensures.numbering c.args.word.now c.loop-output.output-index
    (rw c.outputs-output-items.ensures at c.loop-output-test.false) c.loop-output.invariant
