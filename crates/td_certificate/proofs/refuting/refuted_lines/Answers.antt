use Rattle.std.proofs.lemmas.Result.{err_from_is_err_and}
use Rattle.td_certificate.proofs.StepLoops.{lines_begin, line_shorter, lines_more, lines_are, lines_done, lines_stop}
use Rattle.td_certificate.proofs.refuting.refuted_lines.Goals as goal

pub lines-init : goal.lines-init
lines-init c = lines_begin c.args.text.now

pub returns-in_err-after : goal.returns-in_err-after
returns-in_err-after c =
    let p = err_from_is_err_and c.from_residual.result c.from_residual.ensures.1 in
    rw (p.1, p.2) (lines_stop _ c.args.text.now c.lines.rest.now c.lines.invariant c.in_err-after.ensures)

pub lines-smaller : goal.lines-smaller
lines-smaller c = line_shorter c.lines.rest.now _ c.in_ok-after.ensures

pub lines-preserved : goal.lines-preserved
lines-preserved c = lines_more c.args.text.now c.lines.rest.now _ _ c.lines.invariant (rw c.in-Step-default.is-0 at c.in_ok-after.ensures)

pub new-requires : goal.new-requires
new-requires c = lines_are c.args.text.now c.lines.rest.now c.lines.invariant

pub returns-in-Bound-default : goal.returns-in-Bound-default
returns-in-Bound-default c =
    lines_done c.args.text.now c.lines.rest.now _ c.in-Bound-default.bound _ c.lines.invariant (rw c.in-Bound-default.is-0 at c.in_ok-after.ensures)
    c.in_ok-new-in-Bound-default.ensures
