use Rattle.std.proofs.lemmas.Result.{err_from_is_err_and}
use Rattle.td_certificate.proofs.Batches.{refuted_failed, steps_failed, steps_sent}
use Rattle.td_certificate.proofs.writing.write_refuted.Goals as goal

pub returns-in_err-write_all-clause-err : goal.returns-in_err-write_all-clause-err
returns-in_err-write_all-clause-err g c =
    let p = err_from_is_err_and c.from_residual-in_err-write_all.result c.from_residual-in_err-write_all.ensures.1 in
    rw (p.1, p.2) (refuted_failed _ _ _ c.args.refuted.now (rw (c.as_bytes.ensures.value, c.in_ok-push_str.ensures.bytes) at c.in_err-write_all.ensures))

pub returns-in_err-write_all-2-clause-err : goal.returns-in_err-write_all-2-clause-err
returns-in_err-write_all-2-clause-err g c =
    let p = err_from_is_err_and c.from_residual-in_err-write_all-2.result c.from_residual-in_err-write_all-2.ensures.1 in
    rw (p.1, p.2) (steps_failed _ _ _ _ c.args.refuted.now (rw (c.as_bytes.ensures.value, c.in_ok-push_str.ensures.bytes) at c.in_ok-write_all.ensures)
    (rw c.lines.ensures at c.in_err-write_all-2.ensures))

pub returns-in_err-push_bound-clause-err : goal.returns-in_err-push_bound-clause-err
returns-in_err-push_bound-clause-err g c =
    let p = err_from_is_err_and c.from_residual-in_err-push_bound.result c.from_residual-in_err-push_bound.ensures.1 in
    rw (p.1, p.2) (
      _,
      steps_sent _ _ _ _ c.args.refuted.now (rw (c.as_bytes.ensures.value, c.in_ok-push_str.ensures.bytes) at c.in_ok-write_all.ensures)
          (rw c.lines.ensures at c.in_ok-write_all-2.ensures),
    )

pub returns-clause-ok : goal.returns-clause-ok
returns-clause-ok g c =
    let sent = steps_sent _ _ _ _ c.args.refuted.now (rw (c.as_bytes.ensures.value, c.in_ok-push_str.ensures.bytes) at c.in_ok-write_all.ensures)
    (rw c.lines.ensures at c.in_ok-write_all-2.ensures) in
    rw (c.in_ok-push_bound.ensures, c.clear.ensures.bytes, c.bound.ensures) sent
