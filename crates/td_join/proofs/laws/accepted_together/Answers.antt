use Rattle.td_join.proofs.Acceptance.{accepted_together}
use Rattle.td_join.proofs.laws.accepted_together.Goals as goal

pub returns : goal.returns
returns c = accepted_together
