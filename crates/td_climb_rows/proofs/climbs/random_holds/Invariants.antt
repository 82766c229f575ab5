use Rattle.std.proofs.Common.{◌≡◌, length}
use Rattle.td_climb_rows.proofs.climbs.random_holds.Given as goal

abbrev pub invariant-loop : goal.invariant-loop
invariant-loop l = length l.held.items ≡ l.counter
