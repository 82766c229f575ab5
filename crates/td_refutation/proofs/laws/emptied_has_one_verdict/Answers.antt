use Rattle.td_refutation.proofs.OneVerdict.{emptied_has_one_verdict}
use Rattle.td_refutation.proofs.laws.emptied_has_one_verdict.Goals as goal

pub returns : goal.returns
returns c = emptied_has_one_verdict
