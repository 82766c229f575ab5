use Rattle.td_circuit.specs.Numbering.{nets}
use Rattle.td_circuit.proofs.Nets.{numbers-below}
use Rattle.td_answer.proofs.LatestBound.{bound_net}
use Rattle.td_answer.proofs.bound.net_with.Goals as goal

pub first_with-net-requires : goal.first_with-net-requires
first_with-net-requires c =
    rw (c.outputs.ensures, c.deref.ensures.value, c.in_ok-signals.ensures.all)
    (numbers-below (nets c.args.circuit.now) c.args.circuit.now.outputs _ c.in_ok-signals.ensures.numbering.outputs)

pub returns : goal.returns
returns c =
    bound_net c.args.circuit.now c.in_ok-signals.ensures.numbering c.in_ok-signals.ensures.fit c.args.cube.now c.requires.fits _
    c.in_ok-signals.signals.items c.in_ok-signals.ensures.all c.in_ok-signals.ensures.front c.args.bound c.requires.bound c.first_with-net.result
    (rw (c.deref.ensures.value, c.outputs.ensures) at c.first_with-net.ensures)
