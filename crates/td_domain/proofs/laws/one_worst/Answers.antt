use Rattle.td_domain.proofs.Worst.{one_worst_lem}
use Rattle.td_domain.proofs.laws.one_worst.Goals as goal

pub returns : goal.returns
returns c = one_worst_lem
