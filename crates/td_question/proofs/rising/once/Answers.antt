use Rattle.std.proofs.Common.{refl}
use Rattle.td_gates.proofs.Places.{get-slice_get}
use Rattle.td_question.proofs.Orders.{none_kept, pushed}
use Rattle.td_question.proofs.rising.once.Goals as goal

pub loop-condition-init : goal.loop-condition-init
loop-condition-init c = rw c.new-kept.ensures.items (none_kept c.args.sorted.now)

pub loop-condition-preserved : goal.loop-condition-preserved
loop-condition-preserved c =
    pushed c.args.sorted.now c.requires c.loop-condition.condition-index _
    (get-slice_get c.args.sorted.now c.loop-condition.condition-index _ _ c.loop-condition-test.true refl)
    c.loop-condition.kept.items _ c.loop-condition.invariant c.in_ok-push_next.ensures
