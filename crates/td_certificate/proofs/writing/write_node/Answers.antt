use Rattle.std.proofs.lemmas.Result.{err_from_is_err_and}
use Rattle.td_text.proofs.Outputs.{SentTo-begins}
use Rattle.td_certificate.proofs.writing.write_node.Goals as goal

pub returns-in_err-push_line-in-Split-clause-err : goal.returns-in_err-push_line-in-Split-clause-err
returns-in_err-push_line-in-Split-clause-err g c =
    let p = err_from_is_err_and c.from_residual.result c.from_residual.ensures.1 in
    rw (p.1, p.2) (_, SentTo-begins _ _)
