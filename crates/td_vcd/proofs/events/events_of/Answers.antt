use Rattle.td_vcd.proofs.Steps.{events_next}
use Rattle.td_vcd.proofs.events.events_of.Goals as goal

pub loop-variable-preserved : goal.loop-variable-preserved
loop-variable-preserved c =
    rw c.in_ok-push_events.ensures
    (events_next c.args.waves.now c.loop-variable.events.items _ c.loop-variable.variable c.index-waves-variable.result
    c.loop-variable-test.true c.index-waves-variable.is c.loop-variable.invariant)
