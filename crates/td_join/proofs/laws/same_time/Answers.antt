use Rattle.td_join.proofs.Times.{same_time}
use Rattle.td_join.proofs.laws.same_time.Goals as goal

pub returns : goal.returns
returns c = same_time
