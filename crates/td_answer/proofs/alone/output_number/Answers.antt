use Rattle.std.proofs.Common.{◌≡◌, ◌<◌, length, arith}
use Rattle.td_answer.proofs.OutputNets.{output_at, output_count}
use Rattle.td_answer.proofs.OutputNumbers.{only_one}
use Rattle.td_answer.proofs.alone.output_number.Goals as goal

pub number_of-requires-clause-constant : goal.number_of-requires-clause-constant
number_of-requires-clause-constant c =
    let within : 0 < length c.args.circuit.now.outputs = omega (arith, output_count c.args.circuit.now c.gates-gates.ensures.numbering, c.requires) in
    rw c.outputs.ensures (output_at c.args.circuit.now c.gates-gates.ensures.numbering 0 within).no_constant

pub number_of-requires-clause-net : goal.number_of-requires-clause-net
number_of-requires-clause-net c =
    let within : 0 < length c.args.circuit.now.outputs = omega (arith, output_count c.args.circuit.now c.gates-gates.ensures.numbering, c.requires) in
    rw c.outputs.ensures (output_at c.args.circuit.now c.gates-gates.ensures.numbering 0 within).within

pub returns : goal.returns
returns c =
    let within : 0 < length c.args.circuit.now.outputs = omega (arith, output_count c.args.circuit.now c.gates-gates.ensures.numbering, c.requires) in
    let out = output_at c.args.circuit.now c.gates-gates.ensures.numbering 0 within in
    record {
      name = out.name;
      only = only_one c.args.circuit.now.netlist.outputs out.name c.requires out.at;
      stands = c.number_of.ensures out.name (rw c.outputs.ensures out.net);
    }
