use Rattle.std.specs.Prelude.{not, ◌-◌}
use Rattle.td_circuit.specs.Views.{gate_of}
use Rattle.td_spans.specs.Targets.{steps_to}
use Rattle.td_spans.specs.Clauses.{is_known}
use Rattle.td_spans.specs.Walking.{TOP}
use Rattle.td_spans.proofs.Completing.{IsUnderWay}
use Rattle.td_spans.proofs.gate_clauses.is_sure.Given as goal

abbrev pub invariant-loop-saying : goal.invariant-loop-saying
invariant-loop-saying l =
    IsUnderWay (is_known l.variables l.times (gate_of l.gate) l.body l.saying.level) (steps_to l.gate.delay l.saying.level) (steps_to l.gate.delay (not l.saying.level)) l.place l.walk l.saying

abbrev pub decreases-loop-saying : goal.decreases-loop-saying
decreases-loop-saying l = TOP - l.place
