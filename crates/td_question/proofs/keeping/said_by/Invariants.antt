use Rattle.std.proofs.Common.{map, take}
use Rattle.td_nets.specs.Netlist.{Netlist}
use Rattle.td_question.specs.KeepLines.{quote_in}
use Rattle.td_question.specs.Found.{AreFound, AreSaid}
use Rattle.td_question.proofs.keeping.said_by.Given as goal

-- the conditions of the quotes so far
abbrev pub invariant-loop-quote : goal.invariant-loop-quote
invariant-loop-quote l = (netlist : Netlist) → AreFound netlist l.names l.numbers → AreSaid netlist (map quote_in (take l.quote-index l.quotes)) l.said.items
