use Rattle.std.proofs.Common.{◌≡◌, ◌∙◌, length, arith}
use Rattle.std.proofs.lemmas.List.{length-set}
use Rattle.td_circuit.specs.Numbering.{nets}
use Rattle.td_lead.proofs.Reading.{reads}
use Rattle.td_lead.proofs.fan_in.walk_back.Goals as goal

pub feed-requires-clause-inputs : goal.feed-requires-clause-inputs
feed-requires-clause-inputs c =
    let all : length c.loop-net.feeds ≡ length (nets c.args.circuit.now) =
    c.loop-net.auto.feeds ∙ length-set c.fill.new.self c.args.output c.may_pass.result ∙ c.fill.ensures.len ∙ c.requires.feeds in
    rw c.deref.ensures.value (reads c.args.circuit.now c.gates-gates.result.now _ _ _ c.gates-gates.ensures.numbering c.gates-gates.ensures.gates
    all (omega (arith, all, c.loop-net.auto.net, c.loop-net-test.true, c.first_gate-first.ensures, c.requires.output)))
