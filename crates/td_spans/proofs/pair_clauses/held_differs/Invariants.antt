use Rattle.std.proofs.Common.{◌≡◌}
use Rattle.td_spans.specs.Pairs.{held_differs}
use Rattle.td_spans.proofs.pair_clauses.held_differs.Given as goal

abbrev pub invariant-loop-input : goal.invariant-loop-input
invariant-loop-input l = l.differs ≡ held_differs l.held l.cube l.input
