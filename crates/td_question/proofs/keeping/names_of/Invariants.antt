use Rattle.std.proofs.Common.{map, take}
use Rattle.td_question.specs.KeepLines.{quote_in}
use Rattle.td_question.specs.Found.{AreNames}
use Rattle.td_question.proofs.keeping.names_of.Given as goal

-- the names of the quotes so far
abbrev pub invariant-loop-quote : goal.invariant-loop-quote
invariant-loop-quote l = AreNames (map quote_in (take l.quote-index l.quotes)) l.names
