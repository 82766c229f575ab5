use Rattle.std.proofs.Common.{◌∙◌}
use Rattle.td_question.proofs.NetNames.{count_is}
use Rattle.td_question.proofs.net_names.count_nets.Goals as goal

pub returns : goal.returns
returns c = c.net_count.ensures ∙ count_is c.args.circuit.now c.gates-gates.ensures.numbering
