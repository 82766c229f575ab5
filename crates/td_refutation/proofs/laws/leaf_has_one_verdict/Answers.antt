use Rattle.td_refutation.proofs.OneVerdict.{leaf_has_one_verdict}
use Rattle.td_refutation.proofs.laws.leaf_has_one_verdict.Goals as goal

pub returns : goal.returns
returns c = leaf_has_one_verdict
