use Rattle.std.proofs.Common.{◌≡◌, ◌∙◌, length, arith}
use Rattle.td_circuit.specs.Numbering.{nets}
use Rattle.td_lead.proofs.Reading.{reads}
use Rattle.td_lead.proofs.fan_in.spread.Goals as goal

pub union-requires : goal.union-requires
union-requires c =
    let all : length c.loop-net.reached ≡ length (nets c.args.circuit.now) = c.loop-net.auto.reached ∙ c.loop-input.auto.reached ∙ c.requires.reached in
    rw c.deref.ensures.value (reads c.args.circuit.now c.gates-gates.result.now _ _ _ c.gates-gates.ensures.numbering c.gates-gates.ensures.gates
    all (omega (arith, all, c.first_gate-first.ensures, c.requires.output)))
