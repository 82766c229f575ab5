use Rattle.std.proofs.Common.{◌≡◌, length, vec_len}
use Rattle.td_propagation.proofs.denied.Denied.clear.Given as goal

abbrev pub invariant-loop-variable : goal.invariant-loop-variable
invariant-loop-variable l = length l.self.marks.items ≡ length l.initial.self.marks.items

abbrev pub decreases-loop-variable : goal.decreases-loop-variable
decreases-loop-variable l = vec_len l.self.trail
