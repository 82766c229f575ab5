use Rattle.std.proofs.Common.{◌≡◌, drop}
use Rattle.td_answer.specs.Tables.{open_ending}
use Rattle.td_answer.proofs.each.open_ending.Given as goal

-- the rest of the rows decides
abbrev pub invariant-loop-row : goal.invariant-loop-row
invariant-loop-row l = open_ending l.figures (drop l.row-index l.rows) ≡ open_ending l.figures l.rows
