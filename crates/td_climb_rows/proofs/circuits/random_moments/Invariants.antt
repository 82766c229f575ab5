use Rattle.std.proofs.Common.{◌≡◌, ◌≤◌, length}
use Rattle.std.specs.List.{All}
use Rattle.td_climb_rows.proofs.circuits.random_moments.Given as goal

abbrev pub invariant-loop : goal.invariant-loop
invariant-loop l = record {
  count : length l.moments.items ≡ l.counter;
  within : All (λ moment. moment ≤ 1000000000) l.moments.items;
}
