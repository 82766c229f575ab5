use Rattle.std.proofs.Common.{◌≡◌}
use Rattle.td_pool.proofs.deck.steal_any.Given as goal

abbrev pub invariant-loop-other : goal.invariant-loop-other
invariant-loop-other l = l.others ≡ l.fn.others
