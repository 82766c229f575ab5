use Rattle.std.proofs.Common.{List, map, take_all, ap, ◌∙◌}
use Rattle.td_spans.specs.declared.pieces.Piece.{Piece}
use Rattle.td_spans.specs.Pieces.{no_counts, counts_or, repeated_piece}
use Rattle.td_spans.proofs.Tellings.{repeated_counts}
use Rattle.td_spans.proofs.pieces.repeated.Goals as goal

pub returns : goal.returns
returns c = λ place.
    ap (λ pieces. counts_or pieces no_counts place) (c.loop-piece.invariant ∙ ap (λ (pieces : List Piece). map (repeated_piece c.args.count) pieces) (take_all _ _ c.loop-piece-test.false))
    ∙ repeated_counts c.args.count c.args.one.now place
