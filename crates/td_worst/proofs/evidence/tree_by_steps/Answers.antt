use Rattle.std.proofs.Common.{arith}
use Rattle.td_worst.proofs.KeptLeaves.{if_some}
use Rattle.td_worst.proofs.evidence.tree_by_steps.Goals as goal

pub returns : goal.returns
returns c =
    if_some _ _ (λ tree is. (c.in-Some.refuted, c.in-Some.is, omega (arith, c.if-refuted-high.false), is)) c.tree_of.result
    (rw c.deref.ensures.value at c.tree_of.ensures)
