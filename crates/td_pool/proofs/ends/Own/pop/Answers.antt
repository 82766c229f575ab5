use Rattle.td_pool.proofs.Fairness.{takes_own, pops}
use Rattle.td_pool.proofs.ends.Own.pop.Goals as goal

pub pop_as-requires-clause-fifo : goal.pop_as-requires-clause-fifo
pop_as-requires-clause-fifo c = λ _. takes_own _ c.self.invariant _

pub pop_as-requires-clause-lifo : goal.pop_as-requires-clause-lifo
pop_as-requires-clause-lifo c = λ _. pops _ c.self.invariant _
