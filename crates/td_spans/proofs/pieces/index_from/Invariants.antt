use Rattle.std.proofs.Common.{◌≡◌, ◌≤◌, ◌-◌, ℕ, length, drop}
use Rattle.td_spans.specs.Pieces.{counts_or, no_counts}
use Rattle.td_spans.proofs.pieces.index_from.Given as goal

abbrev pub invariant-loop-index : goal.invariant-loop-index
invariant-loop-index l = (n : ℕ) → l.place ≤ n → counts_or (drop l.from l.pieces) no_counts n ≡ counts_or (drop l.index l.pieces) no_counts n

abbrev pub decreases-loop-index : goal.decreases-loop-index
decreases-loop-index l = length l.pieces - l.index
