use Rattle.std.proofs.Common.{◌-◌, ◌+◌, length}
use Rattle.td_spans.proofs.Merges.{IsMerging}
use Rattle.td_spans.proofs.pieces.merged.Given as goal

abbrev pub invariant-loop-first : goal.invariant-loop-first
invariant-loop-first l = IsMerging l.adds l.one l.other l.i l.j l.pieces.items

abbrev pub decreases-loop-first : goal.decreases-loop-first
decreases-loop-first l = length l.one - l.i + (length l.other - l.j)
