use Rattle.td_pool.proofs.Covers.{at_most_worst}
use Rattle.td_pool.proofs.laws.found_is_at_most_worst.Goals as goal

pub returns : goal.returns
returns c = at_most_worst
