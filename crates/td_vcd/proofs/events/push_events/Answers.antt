use Rattle.td_vcd.proofs.Steps.{push_step}
use Rattle.td_vcd.proofs.events.push_events.Goals as goal

pub loop-change-preserved : goal.loop-change-preserved
loop-change-preserved c =
    push_step c.args.variable c.loop-change.events.items c.changes-change-items.result.now c.loop-change.change-index _ _ c.loop-change-test.true
    c.loop-change.invariant c.in_ok-push.ensures.items
