use Rattle.std.proofs.Common.{◌≡◌, ◌+◌, ◌≤◌, ◌++◌, length}
use Rattle.std.specs.Prelude.{vec_capacity}
use Rattle.td_search.specs.Folding.{folded}
use Rattle.td_search.proofs.lines.Fold.nodes.Given as goal

abbrev pub invariant-loop-node : goal.invariant-loop-node
invariant-loop-node l = record {
  written : l.lines.items ++ folded l.self.bounds.now l.self.domain l.self.high l.passed l.rest ≡ folded l.self.bounds.now l.self.domain l.self.high 0 l.nodes;
  passed : l.passed + length l.rest ≤ length l.nodes + 1;
  left : length l.rest ≤ length l.nodes;
  count : length l.lines.items + length l.rest ≤ length l.nodes;
  space : length l.nodes ≤ vec_capacity l.lines;
}

abbrev pub decreases-loop-node : goal.decreases-loop-node
decreases-loop-node l = length l.rest
