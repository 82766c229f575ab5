use Rattle.std.proofs.Common.{◌≡◌, ◌++◌, map, drop, length}
use Rattle.td_inputs.specs.Cells.{named_count, said}
use Rattle.td_inputs.specs.Labels.{label_in}
use Rattle.td_inputs.proofs.value.said.Given as goal

-- how many of the rest are named, and what was said so far and is said of the rest
abbrev pub invariant-loop-label : goal.invariant-loop-label
invariant-loop-label l =
    (l.left ≡ named_count l.word (map label_in (drop l.label-index l.labels)))
    × (l.cells.items ++ said l.word l.value (map label_in (drop l.label-index l.labels)) ≡ said l.word l.value (map label_in l.labels))
    × (length l.cells.items ≡ l.label-index)
