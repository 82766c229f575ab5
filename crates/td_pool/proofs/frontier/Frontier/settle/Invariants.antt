use Rattle.std.proofs.Common.{List, drop}
use Rattle.td_search.specs.Problems.{problem_of}
use Rattle.td_pool.specs.declared.leaf.OpenLeaf.{OpenLeaf}
use Rattle.td_pool.specs.Frontiers.{AreSettled}
use Rattle.td_pool.proofs.Covers.{IsWalk}
use Rattle.td_pool.proofs.frontier.Frontier.settle.Given as goal

abbrev pub invariant-loop-finding : goal.invariant-loop-finding
invariant-loop-finding g l = record {
  walk : IsWalk (problem_of l.problem) l.self.leaves.items (drop l.finding-index l.finding-items);
  goes_on : (after : List OpenLeaf) → AreSettled l.self.leaves.items (drop l.finding-index l.finding-items) after
      → AreSettled l.initial.self.leaves.items l.finding-items after;
}
