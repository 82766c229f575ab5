use Rattle.td_run.specs.Keeping.{HasLeft}
use Rattle.td_run.proofs.kept.drop_waves.Given as goal

abbrev pub invariant-loop-net : goal.invariant-loop-net
invariant-loop-net l = HasLeft l.ends l.evaluated l.initial.waves l.waves
