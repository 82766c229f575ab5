use Rattle.std.proofs.Common.{sym}
use Rattle.td_certificate.proofs.Batches.{plain_pushed}
use Rattle.td_certificate.proofs.writing.push_terms.Goals as goal

pub returns-in_ok-push_str-in-None : goal.returns-in_ok-push_str-in-None
returns-in_ok-push_str-in-None c = plain_pushed c.args.question.now.terms _ _ (sym (rw c.in-None.is at c.terms.ensures)) c.in_ok-push_str-in-None.ensures.bytes
