use Rattle.std.proofs.Common.{◌≡◌, ◌+◌, ◌≤◌, [], length}
use Rattle.std.specs.Prelude.{vec_capacity}
use Rattle.std.specs.List.{AllByRecursion}
use Rattle.td_search.specs.Problems.{problem_of}
use Rattle.td_pool.specs.Truth.{IsStarting}
use Rattle.td_pool.specs.Working.{IsTruthful}
use Rattle.td_pool.proofs.pool.fn.found_by_all.scope.Given as goal

abbrev pub invariant-loop-worker : goal.invariant-loop-worker
invariant-loop-worker g l = record {
  waiting : AllByRecursion (IsStarting (problem_of l.task.now.problem.now) l.shared.now.incumbent) l.waiting.items;
  started : AllByRecursion (λ handle. IsTruthful l.task.now.problem.now handle.promise) l.handles.items;
  few : length l.handles.items + 1 ≤ l.worker;
  space : l.worker-end ≤ vec_capacity l.handles;
  none : l.all.items ≡ [];
  all_space : l.worker-end ≤ vec_capacity l.all;
  parts : l.own.parts + l.worker ≡ l.worker-end + 1;
  amount : l.own.amount ≡ 0;
}
