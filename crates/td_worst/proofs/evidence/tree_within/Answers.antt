use Rattle.td_worst.proofs.evidence.tree_within.Goals as goal

pub returns-in-Some : goal.returns-in-Some
returns-in-Some c = λ given admit is. c.within.ensures given admit (rw c.in-Some.is at is)
