use Rattle.td_event_sim.specs.Scratch.{IsFor}
use Rattle.td_climb_rows.proofs.lanes.all_agreed.Given as goal

abbrev pub invariant-loop-lane : goal.invariant-loop-lane
invariant-loop-lane l = IsFor l.circuit l.scratch
