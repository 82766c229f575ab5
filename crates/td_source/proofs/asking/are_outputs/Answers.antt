use Rattle.std.proofs.Common.{ap, sym, length, ◌∙◌}
use Rattle.td_source.proofs.Asked.{outputs_by}
use Rattle.td_source.proofs.OutputNets.{output_count}
use Rattle.td_source.proofs.asking.are_outputs.Goals as goal

pub returns : goal.returns
returns c =
    outputs_by c.args.circuit.now.netlist c.args.numbers.now _ c.are_rising.result c.are_rising.ensures
    (ap length c.outputs.ensures ∙ sym (output_count c.args.circuit.now c.gates-gates.ensures.numbering))
