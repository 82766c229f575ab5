use Rattle.std.proofs.Common.{◌≡◌, map, drop, length}
use Rattle.td_inputs.specs.Labels.{label_in}
use Rattle.td_inputs.specs.Readings.{merge}
use Rattle.td_inputs.specs.Scans.{taken_in}
use Rattle.td_inputs.proofs.sayings.merged.Given as goal

-- what was said so far leads to what is said in all by the rest
abbrev pub invariant-loop-word : goal.invariant-loop-word
invariant-loop-word l =
    (merge l.topic (map label_in l.labels) l.cells.items (map taken_in (drop l.word-index l.taken))
    ≡ merge l.topic (map label_in l.labels) l.initial.cells.items (map taken_in l.taken))
    × (length l.cells.items ≡ length l.labels)
