-- A simulation's room for the nets and gates of a circuit.
use Rattle.std.specs.Prelude.{◌≡◌, length}
use Rattle.td_circuit.specs.Numbering.{Numbered, nets}
use Rattle.td_event_sim.specs.Queue.{AreBelow}
use Rattle.td_event_sim.specs.Rules.{AreRules, rules_of}
use Rattle.td_event_sim.specs.declared.state.State.{State}

-- there is a level, a latest change and an event for each net, and a tally with its rule for each
-- gate; only nets wait
pub record FitsCircuit (circuit : Numbered) (state : State) : Type 0 where
  pub levels : length state.logic.levels.items ≡ length (nets circuit)
  pub tallies : length state.logic.tallies.items ≡ length circuit.gates
  pub rules : AreRules circuit.gates (rules_of state.logic.tallies.items)
  pub latest : length state.latest.items ≡ length (nets circuit)
  pub whens : length state.events.whens.items ≡ length (nets circuit)
  pub queue : AreBelow (length (nets circuit)) state.events.queue

-- there is as much as there was, and the rules are the same
pub record HasSameSpace (old new : State) : Type 0 where
  pub levels : length new.logic.levels.items ≡ length old.logic.levels.items
  pub rules : rules_of new.logic.tallies.items ≡ rules_of old.logic.tallies.items
  pub latest : length new.latest.items ≡ length old.latest.items
  pub whens : length new.events.whens.items ≡ length old.events.whens.items
