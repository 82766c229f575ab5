use Rattle.td_pool.proofs.Fairness.{takes}
use Rattle.td_pool.proofs.ends.Other.steal.Goals as goal

pub steal_as-requires-clause-takes : goal.steal_as-requires-clause-takes
steal_as-requires-clause-takes c = takes _ _
