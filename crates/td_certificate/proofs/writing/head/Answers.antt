use Rattle.td_certificate.proofs.Batches.{head_made}
use Rattle.td_certificate.proofs.writing.head.Goals as goal

pub returns : goal.returns
returns c =
    head_made c.args.certificate.now _ _ _ (rw (c.number-number.ensures, c.version-version.ensures, c.inputs-inputs.ensures) at c.in_ok-text.ensures.ok)
    (rw c.version-version.ensures at c.in_ok-push_question.ensures) (rw c.version-version.ensures at c.in_ok-push_claimed.ensures)
