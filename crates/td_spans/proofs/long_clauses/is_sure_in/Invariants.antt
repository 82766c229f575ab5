use Rattle.std.specs.Prelude.{not, ◌-◌}
use Rattle.td_spans.specs.Targets.{steps_to}
use Rattle.td_spans.specs.Walking.{TOP}
use Rattle.td_spans.proofs.Tellings.{IsPaced}
use Rattle.td_spans.proofs.long_clauses.is_sure_in.Given as goal

abbrev pub invariant-loop-saying : goal.invariant-loop-saying
invariant-loop-saying l = IsPaced l.gate.kind l.saying (steps_to l.gate.delay l.saying.level) (steps_to l.gate.delay (not l.saying.level)) l.pieces l.index l.place l.walk

abbrev pub decreases-loop-saying : goal.decreases-loop-saying
decreases-loop-saying l = TOP - l.place
