use Rattle.std.proofs.Common.{◌≡◌, map, take}
use Rattle.td_inputs.specs.Labels.{label_in, label_of}
use Rattle.td_question.proofs.names.input_labels.Given as goal

-- the labels of the inputs so far
abbrev pub invariant-loop-input : goal.invariant-loop-input
invariant-loop-input l = map label_in l.labels.items ≡ map label_of (take l.input l.circuit.netlist.inputs)
