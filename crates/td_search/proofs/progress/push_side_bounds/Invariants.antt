use Rattle.std.proofs.Common.{◌≡◌, ◌≤◌, ◌+◌, ◌*◌, ◌++◌, length, take}
use Rattle.std.specs.Prelude.{vec_capacity}
use Rattle.td_search.specs.Findings.{side_bounds}
use Rattle.td_search.proofs.progress.push_side_bounds.Given as goal

abbrev pub invariant-loop-finding : goal.invariant-loop-finding
invariant-loop-finding l = record {
  items : l.bounds.items ≡ l.fn.bounds.items ++ side_bounds (take l.finding-index l.findings);
  space : length l.bounds.items ≤ length l.fn.bounds.items + 2 * l.finding-index;
  capacity : vec_capacity l.bounds ≡ vec_capacity l.fn.bounds;
}
