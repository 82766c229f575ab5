use Rattle.std.proofs.Common.{◌∙◌, ap, arith, take_all}
use Rattle.td_nets.specs.Views.{name_of}
use Rattle.td_source.proofs.OneOutput.{names_more}
use Rattle.td_source.proofs.OutputNets.{output_at, output_named, output_count}
use Rattle.td_source.proofs.each_output.names_of.Goals as goal

pub name-requires-clause-constant : goal.name-requires-clause-constant
name-requires-clause-constant c = rw c.outputs-net-items.ensures
    ((output_at c.args.circuit.now c.gates-gates.ensures.numbering c.loop-net.net-index (rw c.outputs-net-items.ensures at c.loop-net-test.true)).no_constant)

pub name-requires-clause-net : goal.name-requires-clause-net
name-requires-clause-net c = rw c.outputs-net-items.ensures
    ((output_at c.args.circuit.now c.gates-gates.ensures.numbering c.loop-net.net-index (rw c.outputs-net-items.ensures at c.loop-net-test.true)).within)

pub loop-net-preserved : goal.loop-net-preserved
loop-net-preserved c =
    let less = rw c.outputs-net-items.ensures at c.loop-net-test.true in
    let at = output_named c.args.circuit.now c.gates-gates.ensures.numbering c.loop-net.net-index less (name_of c.name.result.now)
    (rw c.outputs-net-items.ensures at c.name.ensures) in
    names_more c.args.circuit.now.netlist.outputs c.loop-net.net-index (name_of c.name.result.now) c.loop-net.names.items _ c.in_ok-copied.field-0 at
    c.loop-net.invariant c.in_ok-push.ensures.items c.in_ok-copied.ensures
