use Rattle.std.proofs.Common.{◌≡◌, false, take}
use Rattle.std.specs.Prelude.{All}
use Rattle.td_join.specs.Joining.{has_none}
use Rattle.td_join.proofs.nones.without_false_none.Given as goal

abbrev pub invariant-loop-place : goal.invariant-loop-place
invariant-loop-place l = All (λ c. has_none c.tree ≡ false) (take l.place l.certificates)
