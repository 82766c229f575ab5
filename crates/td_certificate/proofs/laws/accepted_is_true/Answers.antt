use Rattle.td_certificate.proofs.Acceptance.{accepted_is_true}
use Rattle.td_certificate.proofs.laws.accepted_is_true.Goals as goal

pub returns : goal.returns
returns c = accepted_is_true
