use Rattle.std.proofs.Common.{ℕ, ◌≡◌, ◌<◌, length}
use Rattle.std.specs.Prelude.{slice_get, Some}
use Rattle.td_pool.specs.Fair.{DequePorts, fresh, ring}
use Rattle.td_pool.proofs.deck.Deck.deal.Given as goal

abbrev pub invariant-loop : goal.invariant-loop
invariant-loop l = record {
  count : length l.decks.items ≡ l.counter;
  own : (j : ℕ) (s : DequePorts) → slice_get l.decks.items j ≡ Some s → s.own ≡ fresh s.own.deque;
}

abbrev pub invariant-loop-k : goal.invariant-loop-k
invariant-loop-k l = record {
  count : length l.decks.items ≡ l.workers;
  own : (j : ℕ) (s : DequePorts) → slice_get l.decks.items j ≡ Some s → s.own ≡ fresh s.own.deque;
  others : (j : ℕ) (s : DequePorts) → j < l.k → slice_get l.decks.items j ≡ Some s → s.others ≡ ring l.decks.items j;
}
