use Rattle.td_checker.proofs.OneVerdict.{texts_have_one_verdict}
use Rattle.td_checker.proofs.laws.texts_have_one_verdict.Goals as goal

pub returns : goal.returns
returns c = texts_have_one_verdict
