use Rattle.td_event_sim.specs.Earliest.{IsFrom}
use Rattle.td_event_sim.proofs.queue.Queue.first_from.Given as goal

abbrev pub invariant-loop : goal.invariant-loop
invariant-loop l = IsFrom l.next l.self.firsts
