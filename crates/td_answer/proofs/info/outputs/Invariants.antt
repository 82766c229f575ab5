use Rattle.std.proofs.Common.{◌≡◌, ◌++◌, drop}
use Rattle.td_answer.specs.Infos.{places_from}
use Rattle.td_answer.proofs.info.outputs.Given as goal

abbrev pub invariant-loop-place : goal.invariant-loop-place
invariant-loop-place l = l.places.items ++ places_from l.place (drop l.place l.circuit.netlist.outputs) ≡ places_from 0 l.circuit.netlist.outputs
