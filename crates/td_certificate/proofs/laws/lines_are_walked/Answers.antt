use Rattle.td_certificate.proofs.Walking.{lines_are_walked}
use Rattle.td_certificate.proofs.laws.lines_are_walked.Goals as goal

pub returns : goal.returns
returns c = lines_are_walked
