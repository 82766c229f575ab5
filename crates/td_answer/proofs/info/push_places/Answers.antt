use Rattle.std.proofs.Common.{refl}
use Rattle.std.proofs.lemmas.Result.{on_ok_weaker}
use Rattle.td_answer.specs.Infos.{places_from, AreInputs, AreOutputs, ArePlaces}
use Rattle.td_answer.proofs.Adding.{two}
use Rattle.td_answer.proofs.info.push_places.Goals as goal

pub returns : goal.returns
returns c =
    on_ok_weaker c.push_outputs.result
    (two (AreInputs (places_from 0 c.args.circuit.now.netlist.inputs)) (AreOutputs (places_from 0 c.args.circuit.now.netlist.outputs))
    (ArePlaces c.args.circuit.now.netlist) c.args.report.now _ c.push_outputs.new.report
    (λ first second inputs outputs. record { inputs = first; are_inputs = inputs; outputs = second; are_outputs = outputs; are = refl })
    (rw c.in_ok-inputs.ensures at c.in_ok-push_inputs.ensures))
    (rw c.in_ok-outputs.ensures at c.push_outputs.ensures)
