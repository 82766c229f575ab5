use Rattle.std.proofs.Common.{ap, ◌∙◌, ◌++◌}
use Rattle.td_spans.specs.Pieces.{next_index}
use Rattle.td_spans.proofs.Merges.{rest_all, merge_on, merge_ends}
use Rattle.td_spans.proofs.pieces.merged.Goals as goal

pub loop-first-preserved : goal.loop-first-preserved
loop-first-preserved c = merge_on c.args.adds c.args.one.now c.args.other.now c.loop-first.i c.loop-first.j c.next_index-i.result c.next_index-j.result
    c.loop-first.pieces.items c.push.new.self.items c.two_at.result c.in-Some.first c.in-Some.second c.joined_piece.result
    c.two_at.ensures c.in-Some.is (c.next_index-i.ensures ∙ ap (next_index c.loop-first.i) c.is_within.ensures)
    (c.next_index-j.ensures ∙ ap (next_index c.loop-first.j) c.is_within-in-Some.ensures) c.joined_piece.ensures.last c.joined_piece.ensures.counts c.in_ok-push.ensures.items c.loop-first.invariant

pub returns : goal.returns
returns c = merge_ends c.args.adds c.args.one.now c.args.other.now c.loop-first.i c.loop-first.j
    c.loop-first.pieces.items c.extend_from_slice.new.self.items c.extend_from_slice-2.new.self.items c.two_at.result
    c.two_at.ensures c.in_default.is (c.in_ok-extend_from_slice.ensures.items ∙ ap (λ ps. c.loop-first.pieces.items ++ ps) (rest_all c.args.one.now c.loop-first.i))
    (c.in_ok-extend_from_slice-2.ensures.items ∙ ap (λ ps. c.extend_from_slice.new.self.items ++ ps) (rest_all c.args.other.now c.loop-first.j)) c.loop-first.invariant
