use Rattle.std.proofs.Common.{◌+◌, drop, length}
use Rattle.td_ternary.specs.Tracks.{outlook_of}
use Rattle.td_ternary.proofs.Ahead.{IsMerging}
use Rattle.td_ternary.proofs.merging.output_of_two.Given as goal

abbrev pub invariant-loop-moment : goal.invariant-loop-moment
invariant-loop-moment l = IsMerging l.kind l.delay l.falling l.left l.right (drop l.first.place l.lefts) (drop l.second.place l.rights)
    l.first.level l.second.level l.now.target l.changes.items (outlook_of l.now)

abbrev pub decreases-loop-moment : goal.decreases-loop-moment
decreases-loop-moment l = length (drop l.first.place l.lefts) + length (drop l.second.place l.rights)
