use Rattle.std.proofs.Common.{◌≡◌, ◌≤◌, length}
use Rattle.std.specs.List.{All}
use Rattle.td_domain_rows.proofs.circuits.moments_of.Given as goal

abbrev pub invariant-loop-moment : goal.invariant-loop-moment
invariant-loop-moment l = record {
  count : length l.own.items ≡ l.moment-index;
  within : All (λ moment. moment ≤ 1000000000) l.own.items;
}
