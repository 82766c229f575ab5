use Rattle.td_domain.proofs.Flips.{all_are_admitted}
use Rattle.td_domain.proofs.laws.all_admitted.Goals as goal

pub returns : goal.returns
returns c = all_are_admitted
