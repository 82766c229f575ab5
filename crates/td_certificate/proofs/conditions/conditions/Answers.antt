use Rattle.std.proofs.lemmas.Result.{err_from_is_err_and}
use Rattle.td_certificate.proofs.ConditionCodes.{condition_shorter, conditions_more, conditions_done, conditions_stop}
use Rattle.td_certificate.proofs.conditions.conditions.Goals as goal

pub returns-in_err-asked : goal.returns-in_err-asked
returns-in_err-asked c =
    let p = err_from_is_err_and c.from_residual.result c.from_residual.ensures.1 in
    rw (p.1, p.2) (conditions_stop _ c.conditions.list.items c.conditions.rest.now _ c.in_err-asked.ensures c.conditions.invariant)

pub returns-then-last : goal.returns-then-last
returns-then-last c =
    rw c.in_ok-push.ensures.items (conditions_done c.conditions.list.items _ c.in_ok-asked.last c.conditions.rest.now _ _ c.in_ok-asked.ensures c.if-last.true c.conditions.invariant)

pub conditions-smaller : goal.conditions-smaller
conditions-smaller c = condition_shorter c.conditions.rest.now _ c.in_ok-asked.ensures

pub conditions-preserved : goal.conditions-preserved
conditions-preserved c =
    rw c.in_ok-push.ensures.items (conditions_more c.conditions.list.items _ c.in_ok-asked.last c.conditions.rest.now _ _ c.in_ok-asked.ensures c.if-last.false c.conditions.invariant)
