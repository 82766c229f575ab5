use Rattle.td_question.specs.Found.{AreFoundBefore}
use Rattle.td_question.proofs.net_names.numbers_of.Given as goal

-- what is found among the nets so far
abbrev pub invariant-loop-number : goal.invariant-loop-number
invariant-loop-number l = AreFoundBefore l.circuit.netlist l.number l.names l.numbers.items
