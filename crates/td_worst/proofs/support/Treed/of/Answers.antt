use Rattle.std.proofs.Common.{arith}
use Rattle.td_worst.proofs.support.Treed.of.Goals as goal

pub returns-in-Some-clause-tree : goal.returns-in-Some-clause-tree
returns-in-Some-clause-tree c = λ asked is. rw c.high_of-high.ensures (rw c.in-Some.is at is)

pub returns-in-Some-clause-within : goal.returns-in-Some-clause-within
returns-in-Some-clause-within c = omega (arith, c.high_of-high.ensures)
