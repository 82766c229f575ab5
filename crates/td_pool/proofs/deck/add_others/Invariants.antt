use Rattle.std.proofs.Common.{◌≡◌, ◌++◌, map, take}
use Rattle.td_pool.specs.Fair.{fresh_other}
use Rattle.td_pool.proofs.deck.add_others.Given as goal

abbrev pub invariant-loop-deck : goal.invariant-loop-deck
invariant-loop-deck l = l.others.items ≡ l.initial.others.items ++ map fresh_other (take l.deck-index l.decks)
