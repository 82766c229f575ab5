use Rattle.td_run.specs.Keeping.{IsLeftUpTo}
use Rattle.td_run.proofs.kept.evaluate.Given as goal

abbrev pub invariant-loop-place : goal.invariant-loop-place
invariant-loop-place l = IsLeftUpTo l.circuit l.first l.second l.ends l.place l.waves.items l.lasts.items
