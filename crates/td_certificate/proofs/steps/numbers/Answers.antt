use Rattle.std.proofs.lemmas.Result.{err_from_is_err_and}
use Rattle.td_certificate.proofs.StepLoops.{number_shorter, numbers_more, numbers_done, numbers_stop}
use Rattle.td_certificate.proofs.steps.numbers.Goals as goal

pub returns-in_err-number : goal.returns-in_err-number
returns-in_err-number c =
    let p = err_from_is_err_and c.from_residual.result c.from_residual.ensures.1 in
    rw (p.1, p.2) (numbers_stop _ c.numbers.numbers.items c.numbers.rest.now _ c.in_err-number.ensures.read c.numbers.invariant)

pub returns-then-last : goal.returns-then-last
returns-then-last c =
    rw c.in_ok-push.ensures.items (numbers_done c.numbers.numbers.items _ c.in_ok-number.last c.numbers.rest.now _ _ c.in_ok-number.ensures.read c.if-last.true c.numbers.invariant)

pub numbers-smaller : goal.numbers-smaller
numbers-smaller c = number_shorter c.numbers.rest.now _ c.in_ok-number.ensures.read

pub numbers-preserved : goal.numbers-preserved
numbers-preserved c =
    rw c.in_ok-push.ensures.items (numbers_more c.numbers.numbers.items _ c.in_ok-number.last c.numbers.rest.now _ _ c.in_ok-number.ensures.read c.if-last.false c.numbers.invariant)
