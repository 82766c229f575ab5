use Rattle.std.proofs.Common.{◌≡◌, drop}
use Rattle.td_answer.specs.Tables.{any_violated}
use Rattle.td_answer.proofs.each.any_violated.Given as goal

-- the rest of the rows decides
abbrev pub invariant-loop-row : goal.invariant-loop-row
invariant-loop-row l = any_violated (drop l.row-index l.rows) ≡ any_violated l.rows
