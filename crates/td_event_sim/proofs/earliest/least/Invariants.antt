use Rattle.td_event_sim.specs.Earliest.{IsLeast}
use Rattle.td_event_sim.proofs.earliest.least.Given as goal

abbrev pub invariant-loop-place : goal.invariant-loop-place
invariant-loop-place l = IsLeast l.start l.place l.moments l.least
