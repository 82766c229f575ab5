use Rattle.td_certificate.proofs.Versions.{versions_are_reported}
use Rattle.td_certificate.proofs.laws.versions_are_reported.Goals as goal

pub returns : goal.returns
returns c = versions_are_reported
