use Rattle.std.proofs.Common.{◌∙◌, ap, arith, refl, take_all}
use Rattle.std.specs.Prelude.{map}
use Rattle.td_nets.specs.Views.{name_of}
use Rattle.td_answer.specs.Runs.{last_of}
use Rattle.td_answer.proofs.OutputNets.{output_at, output_count}
use Rattle.td_answer.proofs.Lasting.{kept_more}
use Rattle.td_answer.proofs.moments.kept_lasts.Goals as goal

pub loop-output-init : goal.loop-output-init
loop-output-init c = λ waves are. c.new-rows.ensures.items

pub name-requires-clause-constant : goal.name-requires-clause-constant
name-requires-clause-constant c = rw c.outputs-output-items.ensures
    ((output_at c.args.circuit.now c.gates-gates.ensures.numbering c.loop-output.output-index (rw c.outputs-output-items.ensures at c.loop-output-test.true)).no_constant)

pub name-requires-clause-net : goal.name-requires-clause-net
name-requires-clause-net c = rw c.outputs-output-items.ensures
    ((output_at c.args.circuit.now c.gates-gates.ensures.numbering c.loop-output.output-index (rw c.outputs-output-items.ensures at c.loop-output-test.true)).within)

pub last-moment-requires : goal.last-moment-requires
last-moment-requires c = rw (c.requires, c.outputs-output-items.ensures)
    ((output_at c.args.circuit.now c.gates-gates.ensures.numbering c.loop-output.output-index (rw c.outputs-output-items.ensures at c.loop-output-test.true)).within)

pub loop-output-preserved : goal.loop-output-preserved
loop-output-preserved c = λ waves are.
    kept_more c.args.circuit.now c.gates-gates.ensures.numbering waves c.args.kept.now.lasts are c.loop-output.output-index
    (rw c.outputs-output-items.ensures at c.loop-output-test.true) c.loop-output.rows.items _ _
    (name_of c.name.result.now) c.last-moment.result
    (rw c.outputs-output-items.ensures at c.name.ensures) (rw c.outputs-output-items.ensures at c.last-moment.ensures)
    (rw c.in_ok-name.ensures refl) (c.loop-output.invariant waves are) c.in_ok-push.ensures.items

pub returns : goal.returns
returns c = λ waves are.
    c.loop-output.invariant waves are
    ∙ ap (map (last_of waves))
    (take_all c.loop-output.output-index c.args.circuit.now.netlist.outputs
    (omega (arith, output_count c.args.circuit.now c.gates-gates.ensures.numbering, rw c.outputs-output-items.ensures at c.loop-output-test.false)))
