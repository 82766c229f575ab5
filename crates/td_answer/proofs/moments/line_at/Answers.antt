use Rattle.std.proofs.Common.{ap, arith, get_or}
use Rattle.std.proofs.lemmas.Result.{IfOk-weaker}
use Rattle.td_answer.proofs.OutputNets.{output_at, output_count}
use Rattle.td_answer.proofs.Lasting.{line_named}
use Rattle.td_answer.proofs.moments.line_at.Goals as goal

pub output_line-requires-clause-constant : goal.output_line-requires-clause-constant
output_line-requires-clause-constant c = rw c.outputs-outputs.ensures
    ((output_at c.args.circuit.now c.gates-gates.ensures.numbering c.args.place
    (omega (arith, c.requires, output_count c.args.circuit.now c.gates-gates.ensures.numbering))).no_constant)

pub output_line-requires-clause-net : goal.output_line-requires-clause-net
output_line-requires-clause-net c = rw c.outputs-outputs.ensures
    ((output_at c.args.circuit.now c.gates-gates.ensures.numbering c.args.place
    (omega (arith, c.requires, output_count c.args.circuit.now c.gates-gates.ensures.numbering))).within)

pub returns : goal.returns
returns c =
    IfOk-weaker c.output_line.result _ _
    (line_named c.args.circuit.now c.gates-gates.ensures.numbering c.args.place
    (omega (arith, c.requires, output_count c.args.circuit.now c.gates-gates.ensures.numbering)) _
    (ap (λ items. get_or items c.args.place 0) c.outputs-outputs.ensures))
    c.output_line.ensures
