use Rattle.std.specs.List.{AllByRecursion}
use Rattle.std.specs.Vec.Iter.{into_iter_items}
use Rattle.td_search.specs.Findings.{IsTrueEvidence}
use Rattle.td_search.specs.Problems.{problem_of}
use Rattle.td_pool.proofs.reports.joined.Given as goal

abbrev pub invariant-loop-piece : goal.invariant-loop-piece
invariant-loop-piece l = record {
  left : AllByRecursion (IsTrueEvidence (problem_of l.fn.problem)) (into_iter_items l.piece-iterator);
  done : AllByRecursion (IsTrueEvidence (problem_of l.fn.problem)) l.all.items;
}
