use Rattle.td_refutation.proofs.OneVerdict.{one_verdict}
use Rattle.td_refutation.proofs.laws.one_verdict.Goals as goal

pub returns : goal.returns
returns c = one_verdict
