use Rattle.std.proofs.Common.{refl}
use Rattle.td_nets.specs.Views.{name_of}
use Rattle.td_answer.proofs.OutputNets.{output_named, output_at}
use Rattle.td_answer.proofs.Listing.{place_more}
use Rattle.td_answer.proofs.info.outputs.Goals as goal

pub name-requires-clause-constant : goal.name-requires-clause-constant
name-requires-clause-constant c = rw c.outputs-net-items.ensures
    ((output_at c.args.circuit.now c.gates-gates.ensures.numbering c.loop-place.place (rw c.outputs-net-items.ensures at c.loop-place-test.true)).no_constant)

pub name-requires-clause-net : goal.name-requires-clause-net
name-requires-clause-net c = rw c.outputs-net-items.ensures
    ((output_at c.args.circuit.now c.gates-gates.ensures.numbering c.loop-place.place (rw c.outputs-net-items.ensures at c.loop-place-test.true)).within)

pub loop-place-preserved : goal.loop-place-preserved
loop-place-preserved c =
    place_more c.args.circuit.now.netlist.outputs c.loop-place.place (name_of c.name.result.now) c.loop-place.places.items _ _ c.loop-place.invariant
    (output_named c.args.circuit.now c.gates-gates.ensures.numbering c.loop-place.place (rw c.outputs-net-items.ensures at c.loop-place-test.true)
    (name_of c.name.result.now) (rw c.outputs-net-items.ensures at c.name.ensures))
    (rw c.in_ok-net.ensures refl) c.in_ok-push.ensures.items
