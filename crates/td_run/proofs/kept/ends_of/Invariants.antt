use Rattle.td_run.specs.Keeping.{AreEndsUpTo}
use Rattle.td_run.proofs.kept.ends_of.Given as goal

abbrev pub invariant-loop-place : goal.invariant-loop-place
invariant-loop-place l = AreEndsUpTo l.circuit l.wanted l.place l.ends.items
