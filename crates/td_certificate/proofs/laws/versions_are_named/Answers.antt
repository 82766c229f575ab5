use Rattle.td_certificate.proofs.NamedVersions.{versions_are_named}
use Rattle.td_certificate.proofs.laws.versions_are_named.Goals as goal

pub returns : goal.returns
returns c = versions_are_named
