use Rattle.td_answer.proofs.Lasting.{report_is}
use Rattle.td_answer.proofs.moments.report_of.Goals as goal

pub returns : goal.returns
returns c =
    report_is c.args.outputs c.args.circuit.now c.args.rows.items c.latest_in-time.result c.in_ok-told.told _ _ _ c.push_told.new.report
    c.in_ok-report.ensures c.in_ok-push_lasts.ensures c.in_ok-add.ensures (rw c.deref.ensures.value at c.latest_in-time.ensures)
    (rw c.deref-2.ensures.value at c.in_ok-told.ensures) c.in_ok-push_told.ensures
