use Rattle.std.proofs.Common.{◌≡◌, map, take}
use Rattle.td_answer.proofs.Ways.{change_in}
use Rattle.td_answer.proofs.beside.changes_line.Given as goal

-- the changes so far
abbrev pub invariant-loop-link : goal.invariant-loop-link
invariant-loop-link l = l.changes.items ≡ map (change_in l.circuit) (take l.link-index l.links)
