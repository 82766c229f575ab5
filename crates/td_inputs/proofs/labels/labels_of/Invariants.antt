use Rattle.std.proofs.Common.{◌≡◌, map, take}
use Rattle.td_nets.specs.Views.{name_of}
use Rattle.td_nets.specs.declared.name.Name.{Name}
use Rattle.td_inputs.specs.Labels.{label_in, label_of}
use Rattle.td_inputs.proofs.labels.labels_of.Given as goal

-- the labels of the names so far
abbrev pub invariant-loop-name : goal.invariant-loop-name
invariant-loop-name l = map label_in l.labels.items ≡ map (λ (name : Name). label_of (name_of name)) (take l.name-index l.names)
