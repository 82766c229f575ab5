use Rattle.td_event_sim.specs.Scratch.{IsFor}
use Rattle.td_domain_rows.proofs.queue.all_from.Given as goal

abbrev pub invariant-loop-after : goal.invariant-loop-after
invariant-loop-after l = IsFor l.circuit l.scratch
