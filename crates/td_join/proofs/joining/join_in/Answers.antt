use Rattle.std.proofs.Common.{List, subst}
use Rattle.std.proofs.lemmas.Result.{err_from_is_err_and}
use Rattle.td_certificate.specs.declared.certificate.Certificate.{Certificate}
use Rattle.td_join.specs.Faults.{IsJoinFault}
use Rattle.td_join.proofs.joining.join_in.Goals as goal

pub returns-in_err-first-clause-fault : goal.returns-in_err-first-clause-fault
returns-in_err-first-clause-fault c =
    let reported = err_from_is_err_and c.from_residual.result c.from_residual.ensures.1 in
    rw (reported.1, reported.2)
    (subst (λ (cs : List Certificate). IsJoinFault cs c.args.pins.now c.in_err-first.field-0.0) c.deref.ensures.value (c.in_err-first.ensures.fault c.args.pins.now))

pub returns-in_err-terms-clause-fault : goal.returns-in_err-terms-clause-fault
returns-in_err-terms-clause-fault c =
    let reported = err_from_is_err_and c.from_residual-in_err-terms.result c.from_residual-in_err-terms.ensures.1 in
    rw (reported.1, reported.2)
    (subst (λ (cs : List Certificate). IsJoinFault cs c.args.pins.now c.in_err-terms.field-0.0) c.deref-3.ensures.value (c.in_err-terms.ensures.fault c.args.pins.now))
