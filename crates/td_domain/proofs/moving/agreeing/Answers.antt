use Rattle.td_domain.proofs.Same.{same_trit, both_more}
use Rattle.td_domain.proofs.moving.agreeing.Goals as goal

pub loop-position-preserved : goal.loop-position-preserved
loop-position-preserved c = λ e.
    both_more c.args.one.now c.args.other.now c.loop-position.position c.trit.result c.trit-in-loop-position.result
    (c.loop-position.invariant e) c.trit.ensures c.trit-in-loop-position.ensures
    (same_trit c.trit.result c.trit-in-loop-position.result c.if-ne.ensures)
