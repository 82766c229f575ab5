use Rattle.std.proofs.Common.{sym, ◌∙◌}
use Rattle.td_spans.proofs.Merges.{skip_on}
use Rattle.td_spans.proofs.pieces.index_from.Goals as goal

pub loop-index-preserved : goal.loop-index-preserved
loop-index-preserved c = skip_on c.args.pieces.now c.args.from c.loop-index.index c.next_index-index.result c.args.place
    (sym (rw c.piece_at.ensures at c.is_by.ensures) ∙ c.loop-index-test.true) c.next_index-index.ensures c.loop-index.invariant
