use Rattle.td_checker.proofs.Written.{accepted_is_written}
use Rattle.td_checker.proofs.laws.accepted_is_written.Goals as goal

pub returns : goal.returns
returns c = accepted_is_written
