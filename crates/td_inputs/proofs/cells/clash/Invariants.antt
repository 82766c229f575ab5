use Rattle.std.proofs.Common.{◌≡◌, drop}
use Rattle.td_inputs.specs.Cells.{clash_from}
use Rattle.td_inputs.proofs.cells.clash.Given as goal

-- the rest has the first clash
abbrev pub invariant-loop-place : goal.invariant-loop-place
invariant-loop-place l = clash_from l.place (drop l.place l.ones) (drop l.place l.others) ≡ clash_from 0 l.ones l.others
