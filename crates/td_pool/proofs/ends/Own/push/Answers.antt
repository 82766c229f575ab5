use Rattle.td_pool.proofs.Fairness.{puts}
use Rattle.td_pool.proofs.ends.Own.push.Goals as goal

pub push_as-requires-clause-pushes : goal.push_as-requires-clause-pushes
push_as-requires-clause-pushes c = puts _ c.self.invariant _ _
