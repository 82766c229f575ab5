use Rattle.std.proofs.Common.{◌≡◌, map, take}
use Rattle.td_spans.specs.Pieces.{repeated_piece}
use Rattle.td_spans.proofs.pieces.repeated.Given as goal

abbrev pub invariant-loop-piece : goal.invariant-loop-piece
invariant-loop-piece l = l.pieces.items ≡ map (repeated_piece l.count) (take l.piece-index l.one)
