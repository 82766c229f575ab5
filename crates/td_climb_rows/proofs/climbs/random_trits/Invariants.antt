use Rattle.std.proofs.Common.{◌≡◌, length}
use Rattle.td_climb_rows.proofs.climbs.random_trits.Given as goal

abbrev pub invariant-loop : goal.invariant-loop
invariant-loop l = length l.trits.items ≡ l.counter
