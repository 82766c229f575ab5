use Rattle.std.proofs.Common.{take}
use Rattle.std.specs.Prelude.{All}
use Rattle.td_join.specs.Faults.{IsInside}
use Rattle.td_join.specs.Joining.{pins_of}
use Rattle.td_join.proofs.hulls.all_inside.Given as goal

abbrev pub invariant-loop-place : goal.invariant-loop-place
invariant-loop-place l = All (λ c. IsInside l.pins (pins_of c)) (take l.place l.certificates)
