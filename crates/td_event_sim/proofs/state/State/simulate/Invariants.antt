use Rattle.std.proofs.Common.{ℕ, ◌≤◌, ◌-◌, ◌^◌}
use Rattle.td_event_sim.specs.Counting.{AreCounted}
use Rattle.td_event_sim.specs.Earliest.{IsFrom}
use Rattle.td_event_sim.specs.Fitting.{FitsCircuit}
use Rattle.td_event_sim.specs.Queue.{Waits}
use Rattle.td_event_sim.specs.Moment.{AreWaiting}
use Rattle.td_event_sim.specs.Rules.{ones_of}
use Rattle.td_event_sim.specs.Reached.{HasReached}
use Rattle.td_event_sim.proofs.state.State.simulate.Given as goal

abbrev pub invariant-loop-moment : goal.invariant-loop-moment
invariant-loop-moment l = record {
  first : IsFrom l.moment l.self.events.queue.firsts;
  earliest : (net when : ℕ) → Waits l.self.events.queue net when → l.moment ≤ when;
  waiting : AreWaiting l.self.events.queue l.self.events.whens.items;
  counted : AreCounted l.circuit.gates l.self.logic.levels.items (ones_of l.self.logic.tallies.items);
  fits : FitsCircuit l.circuit l.self;
  reached : HasReached l.circuit l.pair l.moment l.self.logic.levels.items l.self.events.whens.items l.self.latest.items;
}

abbrev pub decreases-loop-moment : goal.decreases-loop-moment
decreases-loop-moment l = 2 ^ 64 - l.moment
