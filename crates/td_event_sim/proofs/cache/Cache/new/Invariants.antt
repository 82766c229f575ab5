use Rattle.std.proofs.Common.{◌≡◌, length}
use Rattle.std.specs.List.{All}
use Rattle.td_event_sim.specs.Cached.{IsEmpty}
use Rattle.td_event_sim.proofs.cache.Cache.new.Given as goal

abbrev pub invariant-loop : goal.invariant-loop
invariant-loop l = record {
  count : length l.entries.items ≡ l.counter;
  empty : All (IsEmpty l.inputs) l.entries.items;
}
