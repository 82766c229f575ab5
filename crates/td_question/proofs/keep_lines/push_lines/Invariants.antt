use Rattle.std.proofs.Common.{map}
use Rattle.td_question.specs.KeepLines.{quote_in}
use Rattle.td_question.proofs.LineQuotes.{AreRead}
use Rattle.td_question.proofs.keep_lines.push_lines.Given as goal

-- the lines so far
abbrev pub invariant-loop-at : goal.invariant-loop-at
invariant-loop-at l = AreRead l.text l.start l.at l.number (map quote_in l.initial.quotes.items) (map quote_in l.quotes.items)
