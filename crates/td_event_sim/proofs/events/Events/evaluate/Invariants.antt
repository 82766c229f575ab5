use Rattle.std.proofs.Common.{◌≡◌, ◌+◌, List, length, take}
use Rattle.std.specs.List.{Contains}
use Rattle.td_circuit.specs.Numbering.{NumberedGate}
use Rattle.td_event_sim.specs.Counting.{AreCounted}
use Rattle.td_event_sim.specs.Earliest.{IsFrom}
use Rattle.td_event_sim.specs.Queue.{AreBelow}
use Rattle.td_event_sim.specs.Moment.{AreWaiting, AreEvaluatedBy, evaluation_at}
use Rattle.td_event_sim.specs.Rules.{AreRules, ones_of, rules_of}
use Rattle.td_event_sim.proofs.events.Events.evaluate.Given as goal

abbrev pub invariant-loop-output : goal.invariant-loop-output
invariant-loop-output l = record {
  evaluated : (gates : List NumberedGate) → length gates ≡ length l.logic.tallies.items → AreRules gates (rules_of l.logic.tallies.items)
      → AreCounted gates l.logic.levels.items (ones_of l.logic.tallies.items)
      → AreEvaluatedBy (evaluation_at gates l.first_output l.moment l.logic.levels.items) (Contains (take l.output-index l.outputs)) l.fn.self.whens.items l.self.whens.items;
  waiting : AreWaiting l.fn.self.queue l.fn.self.whens.items → AreWaiting l.self.queue l.self.whens.items;
  from : IsFrom (l.moment + 1) l.self.queue.firsts;
  whens : length l.self.whens.items ≡ length l.fn.self.whens.items;
  below : AreBelow (length l.fn.self.whens.items) l.self.queue;
}
