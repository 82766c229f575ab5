use Rattle.std.proofs.Common.{◌+◌, ◌≤◌, length}
use Rattle.std.specs.Prelude.{vec_capacity}
use Rattle.std.specs.List.{AllByRecursion}
use Rattle.std.specs.Vec.Iter.{into_iter_items}
use Rattle.td_search.specs.Problems.{problem_of}
use Rattle.td_pool.specs.Truth.{IsTrueFound}
use Rattle.td_pool.specs.Working.{IsTruthful}
use Rattle.td_pool.proofs.reports.join_all.Given as goal

abbrev pub invariant-loop-handle : goal.invariant-loop-handle
invariant-loop-handle g l = record {
  left : AllByRecursion (λ handle. IsTruthful l.fn.problem handle.promise) (into_iter_items l.handle-iterator);
  done : AllByRecursion (λ report. IsTrueFound (problem_of l.fn.problem) report.found) l.all.items;
  space : length l.all.items + length (into_iter_items l.handle-iterator) ≤ vec_capacity l.all;
}
