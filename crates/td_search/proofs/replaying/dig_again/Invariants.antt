use Rattle.std.proofs.Common.{◌≡◌, ◌≤◌, map, take}
use Rattle.std.specs.List.{AllByRecursion}
use Rattle.td_search.specs.Findings.{IsUsable, state_of}
use Rattle.td_search.proofs.replaying.dig_again.Given as goal

abbrev pub invariant-loop-finding : goal.invariant-loop-finding
invariant-loop-finding l = record {
  count : l.count ≡ l.finding-index;
  subtree : l.subtree ≡ record l.fn.subtree { states = map (state_of l.best) (take l.finding-index l.findings) };
  usable : AllByRecursion (IsUsable l.best) (take l.finding-index l.findings);
  few : l.count ≤ l.fn.subtree.allowance;
}
