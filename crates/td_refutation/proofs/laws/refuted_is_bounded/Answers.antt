use Rattle.td_refutation.proofs.Steps.{refuted_is_bounded}
use Rattle.td_refutation.proofs.laws.refuted_is_bounded.Goals as goal

pub returns : goal.returns
returns c = refuted_is_bounded
