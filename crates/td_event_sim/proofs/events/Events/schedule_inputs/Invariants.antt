use Rattle.std.proofs.Common.{◌≡◌, length}
use Rattle.td_event_sim.specs.Queue.{AreBelow}
use Rattle.td_event_sim.specs.Moment.{AreWaiting, AreScheduled}
use Rattle.td_event_sim.proofs.events.Events.schedule_inputs.Given as goal

abbrev pub invariant-loop-input : goal.invariant-loop-input
invariant-loop-input l = record {
  scheduled : AreScheduled l.input l.moments l.first l.second l.self.whens.items;
  waiting : AreWaiting l.self.queue l.self.whens.items;
  whens : length l.self.whens.items ≡ length l.fn.self.whens.items;
  below : AreBelow (length l.fn.self.whens.items) l.self.queue;
}
