use Rattle.std.proofs.Common.{arith}
use Rattle.td_certificate.proofs.Batches.{trit_pushed, trits_pushed}
use Rattle.td_answer.proofs.pins.push_trits.Goals as goal

pub loop-input-preserved : goal.loop-input-preserved
loop-input-preserved c =
    trit_pushed c.args.second c.args.pins.now c.loop-input.input c.side.result c.len-input-end.result c.trit.result _ _ _ c.len-input-end.ensures c.loop-input-test.true c.side.ensures
    c.trit.ensures c.loop-input.invariant (rw c.character.ensures at c.in_ok-push.ensures.appended)

pub returns : goal.returns
returns c = trits_pushed c.args.second c.args.pins.now c.loop-input.input c.len-input-end.result _ _ c.len-input-end.ensures (omega (arith, c.len-input-end.ensures)) (omega arith) c.loop-input.invariant
