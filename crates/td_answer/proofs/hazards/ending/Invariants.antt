use Rattle.std.proofs.Common.{◌≡◌, drop}
use Rattle.td_answer.specs.Hazards.{hazards_ending}
use Rattle.td_answer.proofs.hazards.ending.Given as goal

-- the rest of the rows decides
abbrev pub invariant-loop-row : goal.invariant-loop-row
invariant-loop-row l = hazards_ending (drop l.row-index l.rows) ≡ hazards_ending l.rows
