use Rattle.std.proofs.Common.{◌≡◌, ◌++◌, drop}
use Rattle.td_answer.specs.Infos.{places_from}
use Rattle.td_answer.proofs.info.inputs.Given as goal

abbrev pub invariant-loop-input : goal.invariant-loop-input
invariant-loop-input l = l.places.items ++ places_from l.input (drop l.input l.circuit.netlist.inputs) ≡ places_from 0 l.circuit.netlist.inputs
