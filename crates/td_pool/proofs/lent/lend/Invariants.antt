use Rattle.std.proofs.Common.{◌≡◌, length}
use Rattle.td_pool.proofs.lent.lend.Given as goal

abbrev pub invariant-loop-deck : goal.invariant-loop-deck
invariant-loop-deck g l = length l.all.items ≡ l.deck-index
