use Rattle.std.proofs.Common.{◌+◌, drop, length, map}
use Rattle.td_event_sim.specs.Counting.{StayCounted}
use Rattle.td_event_sim.specs.Earliest.{IsFrom}
use Rattle.td_event_sim.specs.Fitting.{HasSameSpace}
use Rattle.td_event_sim.specs.Queue.{AreBelow}
use Rattle.td_event_sim.specs.Rules.{AreReported, ones_of, rules_of}
use Rattle.td_event_sim.specs.Scratch.{AreNets}
use Rattle.td_event_sim.proofs.Updates.{AreUpdatedTo}
use Rattle.td_event_sim.proofs.state.State.update.Given as goal

abbrev pub invariant-loop-net : goal.invariant-loop-net
invariant-loop-net l = record {
  updated : AreUpdatedTo l.moment (drop l.net-index l.taken) l.self.events.queue l.fn.self.logic.levels.items l.self.logic.levels.items
      l.fn.self.events.whens.items l.self.events.whens.items l.fn.self.latest.items l.self.latest.items;
  counted : StayCounted l.first_output (map (λ outputs. outputs.items) l.readers) l.fn.self.logic.levels.items l.self.logic.levels.items
      (ones_of l.fn.self.logic.tallies.items) (ones_of l.self.logic.tallies.items);
  space : HasSameSpace l.fn.self l.self;
  reported : AreReported l.first_output (rules_of l.fn.self.logic.tallies.items) (ones_of l.fn.self.logic.tallies.items) (ones_of l.self.logic.tallies.items) l.turned.items;
  outputs : AreNets l.first_output (l.first_output + length l.fn.self.logic.tallies.items) l.turned.items;
  from : IsFrom (l.moment + 1) l.self.events.queue.firsts;
  below : AreBelow (length l.fn.self.events.whens.items) l.self.events.queue;
}
