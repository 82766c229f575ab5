use Rattle.std.proofs.Common.{arith, rules}
use Rattle.std.proofs.lemmas.Result.{err_from_is_err_and}
use Rattle.td_certificate.proofs.Loops.{moments_stop, moments_go_on, moments_done}
use Rattle.td_certificate.proofs.asking.moments.Goals as goal

pub returns-in_err-next : goal.returns-in_err-next
returns-in_err-next c =
    let p = err_from_is_err_and c.from_residual.result c.from_residual.ensures.1 in
    rw (p.1, p.2) (moments_stop _ c.loop-input.at_once c.loop-input.moments.items c.args.inputs c.loop-input.input _ _ c.loop-input-test.true c.in_err-next.ensures c.loop-input.invariant)

pub loop-input-preserved : goal.loop-input-preserved
loop-input-preserved c =
    rw c.in_ok-push.ensures.items (moments_go_on c.loop-input.at_once _ c.loop-input.moments.items c.args.inputs c.loop-input.input _ _ _ c.loop-input-test.true c.in_ok-next.ensures (search rules) c.loop-input.invariant)

pub returns : goal.returns
returns c = moments_done _ c.loop-input.moments.items c.args.inputs c.loop-input.input _ _ (omega arith) c.loop-input.invariant
