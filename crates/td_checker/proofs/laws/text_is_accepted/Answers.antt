use Rattle.td_checker.proofs.Written.{text_is_accepted}
use Rattle.td_checker.proofs.laws.text_is_accepted.Goals as goal

pub returns : goal.returns
returns c = text_is_accepted
