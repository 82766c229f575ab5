use Rattle.std.proofs.Common.{ap}
use Rattle.td_nets.specs.Views.{name_of}
use Rattle.td_lines.specs.declared.line.Line.TheVariants as line
use Rattle.td_answer.proofs.Ways.{net_named}
use Rattle.td_answer.proofs.beside.output_line.Goals as goal

pub returns : goal.returns
returns c =
    net_named c.args.circuit.now c.args.net (name_of c.name.result.now) _ c.name.ensures (ap (λ name. line.Output name) c.in_ok-name.ensures)
