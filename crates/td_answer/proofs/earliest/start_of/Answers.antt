use Rattle.td_circuit.specs.Numbering.{nets}
use Rattle.td_circuit.proofs.Nets.{numbers-below}
use Rattle.td_answer.proofs.FirstChanges.{sound_start}
use Rattle.td_answer.proofs.earliest.start_of.Goals as goal

pub soonest-start-requires : goal.soonest-start-requires
soonest-start-requires c =
    rw (c.outputs.ensures, c.deref.ensures.value, c.in_ok-signals.ensures.all)
    (numbers-below (nets c.args.circuit.now) c.args.circuit.now.outputs _ c.in_ok-signals.ensures.numbering.outputs)

pub returns : goal.returns
returns c =
    sound_start c.args.circuit.now c.in_ok-signals.ensures.numbering c.in_ok-signals.ensures.fit c.args.cube.now c.requires _
    c.in_ok-signals.signals.items c.in_ok-signals.ensures.all c.in_ok-signals.ensures.front c.soonest-start.result
    (rw (c.deref.ensures.value, c.outputs.ensures) at c.soonest-start.ensures)
