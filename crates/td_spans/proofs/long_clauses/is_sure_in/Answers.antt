use Rattle.std.proofs.Common.{refl, ap, ◌∙◌}
use Rattle.td_gates.specs.Table.{level_eq, level_from}
use Rattle.td_spans.specs.declared.pieces.Piece.{Piece}
use Rattle.td_spans.specs.Times.{is_by}
use Rattle.td_spans.specs.Pieces.{is_known_in}
use Rattle.td_spans.proofs.Stretches.{all_sure, none_sure, way_on, gets_less}
use Rattle.td_spans.proofs.Tellings.{before_end, stretch_in, paced_on}
use Rattle.td_spans.proofs.long_clauses.is_sure_in.Goals as goal

pub returns-then-is_covered : goal.returns-then-is_covered
returns-then-is_covered c =
    let before = before_end c.loop-saying.place c.piece_at-piece.result.last c.next_after-next.result (ap (λ (p : Piece). is_by c.loop-saying.place p.last) c.piece_at-piece.ensures ∙ c.index_from-index.ensures.on) c.next_after-next.ensures.next in
    let stretch = stretch_in c.args.gate.now.kind c.args.saying.level c.args.pieces.now c.loop-saying.index c.index_from-index.result c.loop-saying.place c.piece_at-piece.result
    c.next_after-next.result c.is_level-passes.result c.loop-saying.invariant.same c.index_from-index.ensures.same c.piece_at-piece.ensures c.next_after-next.ensures.next
    (c.is_level-passes.ensures ∙ ap (level_eq (level_from c.args.saying.level)) c.eval_counts.ensures.by_counts) in (
      λ _. all_sure (is_known_in c.args.gate.now.kind c.args.saying.level c.args.pieces.now) c.args.gate.now.delay c.args.saying
          c.steps_to-coming.result c.steps_to-going.result c.loop-saying.place c.loop-saying.walk c.walked-walk.result c.is_level-passes.result c.is_covered.result c.is_by.result
          c.next_after-next.result c.steps_to-coming.ensures.steps c.steps_to-going.ensures.steps c.steps_to-coming.ensures.some c.steps_to-going.ensures.some before stretch
          c.walked-walk.ensures c.loop-saying.invariant.walks c.is_covered.ensures c.is_by.ensures c.if-not-is_by.false c.if-is_covered.true,
      λ all. refl,
    )

pub returns-in-None : goal.returns-in-None
returns-in-None c =
    let before = before_end c.loop-saying.place c.piece_at-piece.result.last c.next_after-next.result (ap (λ (p : Piece). is_by c.loop-saying.place p.last) c.piece_at-piece.ensures ∙ c.index_from-index.ensures.on) c.next_after-next.ensures.next in
    let stretch = stretch_in c.args.gate.now.kind c.args.saying.level c.args.pieces.now c.loop-saying.index c.index_from-index.result c.loop-saying.place c.piece_at-piece.result
    c.next_after-next.result c.is_level-passes.result c.loop-saying.invariant.same c.index_from-index.ensures.same c.piece_at-piece.ensures c.next_after-next.ensures.next
    (c.is_level-passes.ensures ∙ ap (level_eq (level_from c.args.saying.level)) c.eval_counts.ensures.by_counts) in (
      λ e. cc,
      λ all. absurd (none_sure (is_known_in c.args.gate.now.kind c.args.saying.level c.args.pieces.now) c.args.gate.now.delay c.args.saying
          c.steps_to-coming.result c.steps_to-going.result c.loop-saying.place c.loop-saying.walk c.walked-walk.result c.is_level-passes.result c.is_covered.result c.is_by.result
          c.next_after-next.result c.steps_to-coming.ensures.steps c.steps_to-going.ensures.steps c.steps_to-coming.ensures.some c.steps_to-going.ensures.some before stretch
          c.walked-walk.ensures c.loop-saying.invariant.walks c.is_covered.ensures c.is_by.ensures c.if-not-is_by.false c.if-is_covered.false c.in-None.is all),
    )

pub loop-saying-preserved : goal.loop-saying-preserved
loop-saying-preserved c =
    let before = before_end c.loop-saying.place c.piece_at-piece.result.last c.next_after-next.result (ap (λ (p : Piece). is_by c.loop-saying.place p.last) c.piece_at-piece.ensures ∙ c.index_from-index.ensures.on) c.next_after-next.ensures.next in
    let stretch = stretch_in c.args.gate.now.kind c.args.saying.level c.args.pieces.now c.loop-saying.index c.index_from-index.result c.loop-saying.place c.piece_at-piece.result
    c.next_after-next.result c.is_level-passes.result c.loop-saying.invariant.same c.index_from-index.ensures.same c.piece_at-piece.ensures c.next_after-next.ensures.next
    (c.is_level-passes.ensures ∙ ap (level_eq (level_from c.args.saying.level)) c.eval_counts.ensures.by_counts) in
    record {
      walks = way_on (is_known_in c.args.gate.now.kind c.args.saying.level c.args.pieces.now) c.args.gate.now.delay c.args.saying
          c.steps_to-coming.result c.steps_to-going.result c.loop-saying.place c.loop-saying.walk c.walked-walk.result c.is_level-passes.result c.is_covered.result c.is_by.result
          c.next_after-next.result c.steps_to-coming.ensures.steps c.steps_to-going.ensures.steps c.steps_to-coming.ensures.some c.steps_to-going.ensures.some before stretch
          c.walked-walk.ensures c.loop-saying.invariant.walks c.is_covered.ensures c.is_by.ensures c.if-not-is_by.false c.if-is_covered.false c.in-Some.later c.in-Some.is c.in-Some.ensures.few;
      same = paced_on c.args.pieces.now c.loop-saying.index c.index_from-index.result c.loop-saying.place c.in-Some.later c.next_after-next.result before c.in-Some.is
          c.loop-saying.invariant.same c.index_from-index.ensures.same;
    }

pub loop-saying-smaller : goal.loop-saying-smaller
loop-saying-smaller c =
    let before = before_end c.loop-saying.place c.piece_at-piece.result.last c.next_after-next.result (ap (λ (p : Piece). is_by c.loop-saying.place p.last) c.piece_at-piece.ensures ∙ c.index_from-index.ensures.on) c.next_after-next.ensures.next in
    let stretch = stretch_in c.args.gate.now.kind c.args.saying.level c.args.pieces.now c.loop-saying.index c.index_from-index.result c.loop-saying.place c.piece_at-piece.result
    c.next_after-next.result c.is_level-passes.result c.loop-saying.invariant.same c.index_from-index.ensures.same c.piece_at-piece.ensures c.next_after-next.ensures.next
    (c.is_level-passes.ensures ∙ ap (level_eq (level_from c.args.saying.level)) c.eval_counts.ensures.by_counts) in
    gets_less (is_known_in c.args.gate.now.kind c.args.saying.level c.args.pieces.now) c.args.gate.now.delay c.args.saying
    c.steps_to-coming.result c.steps_to-going.result c.loop-saying.place c.loop-saying.walk c.walked-walk.result c.is_level-passes.result c.is_covered.result c.is_by.result
    c.next_after-next.result c.steps_to-coming.ensures.steps c.steps_to-going.ensures.steps c.steps_to-coming.ensures.some c.steps_to-going.ensures.some before stretch
    c.walked-walk.ensures c.loop-saying.invariant.walks c.is_covered.ensures c.is_by.ensures c.if-not-is_by.false c.in-Some.later c.in-Some.is c.in-Some.ensures.few
