use Rattle.td_answer.specs.BoundNets.{NoneBefore}
use Rattle.td_answer.proofs.bound.first_with.Given as goal

abbrev pub invariant-loop-net : goal.invariant-loop-net
invariant-loop-net g l = NoneBefore g.D.Domain.functions.last_of l.signals l.nets l.last l.net-index
