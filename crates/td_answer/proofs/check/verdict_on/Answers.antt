use Rattle.td_answer.proofs.Judged.{true_check}
use Rattle.td_answer.proofs.check.verdict_on.Goals as goal

pub returns-clause-says : goal.returns-clause-says
returns-clause-says c =
    true_check c.args.text.now c.args.reading.now c.args.told c.args.certificate.now c.in-Some.checked.certificate c.in_ok-report.report
    c.in-Some.checked.verdict c.ending.result (rw c.in-Some.is at c.in_ok-found.ensures.reported) (rw c.in-Some.is at c.in_ok-found.ensures.spelled)
    (rw c.in-Some.is at c.in_ok-found.ensures.truth) c.in_ok-report.ensures c.ending.ensures
