use Rattle.std.proofs.Common.{◌≡◌, ◌++◌, drop, length}
use Rattle.td_inputs.specs.Cells.{together}
use Rattle.td_inputs.proofs.cells.together.Given as goal

-- what was said so far, and what the rest says
abbrev pub invariant-loop-place : goal.invariant-loop-place
invariant-loop-place l =
    (l.cells.items ++ together (drop l.place l.ones) (drop l.place l.others) ≡ together l.ones l.others)
    × (length l.cells.items ≡ l.place)
