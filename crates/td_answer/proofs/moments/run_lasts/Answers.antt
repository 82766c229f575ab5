use Rattle.std.proofs.Common.{◌∙◌, ap, arith, refl, take_all}
use Rattle.std.specs.Prelude.{map}
use Rattle.td_nets.specs.Views.{name_of}
use Rattle.td_answer.specs.Runs.{last_of}
use Rattle.td_answer.specs.Additions.{waves_in}
use Rattle.td_answer.proofs.OutputNets.{output_at, output_count}
use Rattle.td_answer.proofs.Ways.{last_more}
use Rattle.td_answer.proofs.moments.run_lasts.Goals as goal

pub name-requires-clause-constant : goal.name-requires-clause-constant
name-requires-clause-constant c = rw c.outputs-output-items.ensures
    ((output_at c.args.circuit.now c.gates-gates.ensures.numbering c.loop-output.output-index (rw c.outputs-output-items.ensures at c.loop-output-test.true)).no_constant)

pub name-requires-clause-net : goal.name-requires-clause-net
name-requires-clause-net c = rw c.outputs-output-items.ensures
    ((output_at c.args.circuit.now c.gates-gates.ensures.numbering c.loop-output.output-index (rw c.outputs-output-items.ensures at c.loop-output-test.true)).within)

pub wave-requires : goal.wave-requires
wave-requires c = rw (c.requires, c.outputs-output-items.ensures)
    ((output_at c.args.circuit.now c.gates-gates.ensures.numbering c.loop-output.output-index (rw c.outputs-output-items.ensures at c.loop-output-test.true)).within)

pub loop-output-preserved : goal.loop-output-preserved
loop-output-preserved c =
    last_more c.args.circuit.now c.gates-gates.ensures.numbering c.args.run.now c.requires c.loop-output.output-index
    (rw c.outputs-output-items.ensures at c.loop-output-test.true) c.loop-output.rows.items _ _
    (name_of c.name.result.now) c.wave.result.now c.last-moment.result
    (rw c.outputs-output-items.ensures at c.name.ensures) (rw c.outputs-output-items.ensures at c.wave.ensures) c.last-moment.ensures
    (rw c.in_ok-name.ensures refl) c.loop-output.invariant c.in_ok-push.ensures.items

pub returns : goal.returns
returns c =
    c.loop-output.invariant
    ∙ ap (map (last_of (waves_in c.args.circuit.now c.args.run.now)))
    (take_all c.loop-output.output-index c.args.circuit.now.netlist.outputs
    (omega (arith, output_count c.args.circuit.now c.gates-gates.ensures.numbering, rw c.outputs-output-items.ensures at c.loop-output-test.false)))
