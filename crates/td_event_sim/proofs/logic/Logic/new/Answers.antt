use Rattle.std.proofs.Common.{List, subst}
use Rattle.td_circuit.specs.Numbering.{NumberedGate}
use Rattle.td_event_sim.specs.Rules.{AreRules, rules_of}
use Rattle.td_event_sim.proofs.Fits.{all-few}
use Rattle.td_event_sim.proofs.logic.Logic.new.Goals as goal

pub tallies-requires : goal.tallies-requires
tallies-requires c = all-few c.args.circuit.now c.gates.result.now c.gates.ensures.numbering c.gates.ensures.gates

pub returns-clause-rules : goal.returns-clause-rules
returns-clause-rules c =
    subst (λ (gates : List NumberedGate). AreRules gates (rules_of c.in_ok-tallies.tallies.items)) c.gates.ensures.gates c.in_ok-tallies.ensures.rules
