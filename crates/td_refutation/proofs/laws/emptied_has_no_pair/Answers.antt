use Rattle.td_refutation.proofs.Steps.{emptied_has_no_pair}
use Rattle.td_refutation.proofs.laws.emptied_has_no_pair.Goals as goal

pub returns : goal.returns
returns c = emptied_has_no_pair
