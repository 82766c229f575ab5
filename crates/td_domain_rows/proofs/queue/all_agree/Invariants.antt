use Rattle.td_event_sim.specs.Scratch.{IsFor}
use Rattle.td_domain_rows.proofs.queue.all_agree.Given as goal

abbrev pub invariant-loop-before : goal.invariant-loop-before
invariant-loop-before l = IsFor l.circuit l.scratch
