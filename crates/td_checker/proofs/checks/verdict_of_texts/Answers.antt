use Rattle.std.proofs.lemmas.Result.{err_from_is_err_and}
use Rattle.td_checker.proofs.Texts.{spelled_fault_of, have_verdict, tells_truth}
use Rattle.td_checker.proofs.checks.verdict_of_texts.Goals as goal

pub returns-in_err-verdict-in-Ok-clause-fault : goal.returns-in_err-verdict-in-Ok-clause-fault
returns-in_err-verdict-in-Ok-clause-fault c =
    let reported = err_from_is_err_and c.from_residual.result c.from_residual.ensures.1 in
    rw (reported.1, reported.2) (spelled_fault_of c.args.netlist.now c.args.reading.now c.args.certificate.now c.in-Ok.spelled c.in_err-verdict-in-Ok.field-0.0
    c.in-Ok.ensures.found c.in_err-verdict-in-Ok.ensures.fault)

pub returns-in-Some-clause-reported : goal.returns-in-Some-clause-reported
returns-in-Some-clause-reported c =
    have_verdict c.args.netlist.now c.args.reading.now c.args.told c.args.certificate.now c.in-Ok.spelled c.in-Some.verdict c.in-Ok.ensures.found
    (rw c.in-Some.is at c.in_ok-verdict-in-Ok.ensures.verdict)

pub returns-in-Some-clause-truth : goal.returns-in-Some-clause-truth
returns-in-Some-clause-truth c = λ accepted.
    tells_truth c.args.netlist.now c.args.reading.now c.args.certificate.now c.in-Ok.spelled c.in-Ok.ensures.found.0
    (rw c.in-Some.is at c.in_ok-verdict-in-Ok.ensures.truth accepted)

pub returns-clause-fault : goal.returns-clause-fault
returns-clause-fault c = c.unread.ensures c.args.certificate.now c.in-Err.ensures.fault
