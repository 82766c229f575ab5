use Rattle.std.proofs.Common.{refl}
use Rattle.td_gates.proofs.Places.{get-slice_get}
use Rattle.td_answer.proofs.FirstChanges.{one_more}
use Rattle.td_answer.proofs.earliest.soonest.Goals as goal

pub loop-net-preserved : goal.loop-net-preserved
loop-net-preserved c =
    one_more c.args.signals.now c.args.nets.now c.loop-net.net-index c.loop-net.first _ _ _ c.loop-net-test.true
    (get-slice_get c.args.signals.now _ _ _ (c.requires _ 0 c.loop-net-test.true) refl) c.first_change.ensures c.sooner-first.ensures c.loop-net.invariant
