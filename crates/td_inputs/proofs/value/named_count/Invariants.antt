use Rattle.std.proofs.Common.{◌≡◌, ◌≤◌, ◌+◌, map, drop}
use Rattle.td_inputs.specs.Cells.{named_count}
use Rattle.td_inputs.specs.Labels.{label_in}
use Rattle.td_inputs.proofs.value.named_count.Given as goal

-- those named so far, and those among the rest
abbrev pub invariant-loop-label : goal.invariant-loop-label
invariant-loop-label l =
    (l.count + named_count l.word (map label_in (drop l.label-index l.labels)) ≡ named_count l.word (map label_in l.labels))
    × (l.count ≤ l.label-index)
