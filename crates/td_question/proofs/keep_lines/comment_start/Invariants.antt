use Rattle.std.proofs.Common.{◌≡◌, ◌++◌, false, drop, take}
use Rattle.td_question.specs.KeepLines.{uncommented}
use Rattle.td_question.proofs.keep_lines.comment_start.Given as goal

-- what is left is up to the comment
abbrev pub invariant-loop-at : goal.invariant-loop-at
invariant-loop-at l = take l.at l.line ++ uncommented l.escaped (drop l.at l.line) ≡ uncommented false l.line
