use Rattle.std.proofs.Common.{◌<◌}
use Rattle.td_join.specs.Steps.{IsPartAt}
use Rattle.td_join.proofs.steps.clash.Given as goal

abbrev pub invariant-loop-other : goal.invariant-loop-other
invariant-loop-other l = record {
  among : IsPartAt l.parts l.last;
  above : 1 < l.other-index → l.first.place < l.last;
}
