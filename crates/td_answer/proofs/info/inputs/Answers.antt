use Rattle.std.proofs.Common.{◌≡◌, ◌<◌, length, subst, arith, refl, Some}
use Rattle.std.specs.Prelude.{slice_get}
use Rattle.td_nets.specs.Netlist.{Named}
use Rattle.td_nets.specs.Views.{name_of}
use Rattle.td_circuit.specs.Numbering.{nets}
use Rattle.td_answer.proofs.OutputNets.{input_named}
use Rattle.td_answer.proofs.Listing.{place_more}
use Rattle.td_answer.proofs.info.inputs.Goals as goal

pub loop-input-preserved : goal.loop-input-preserved
loop-input-preserved c =
    let less : c.loop-input.input < length c.args.circuit.now.netlist.inputs =
    subst (λ count. c.loop-input.input < count) c.input_count-input-end.ensures c.loop-input-test.true in
    place_more c.args.circuit.now.netlist.inputs c.loop-input.input (name_of c.name.result.now) c.loop-input.places.items _ _ c.loop-input.invariant
    (input_named c.args.circuit.now c.loop-input.input less (name_of c.name.result.now)
    (subst (λ net. slice_get (nets c.args.circuit.now) net ≡ Some (Named (name_of c.name.result.now))) (omega (arith, c.net_of_input-net.ensures)) c.name.ensures))
    (rw c.in_ok-net.ensures refl) c.in_ok-push.ensures.items
