use Rattle.std.proofs.Common.{◌≡◌, ◌≤◌}
use Rattle.td_search.specs.Below.{IsBelow}
use Rattle.td_search.specs.Problems.{problem_of}
use Rattle.td_search.specs.Progress.{IsUnderWay}
use Rattle.td_search.proofs.progress.Search.work_below.Given as goal

abbrev pub invariant-loop : goal.invariant-loop
invariant-loop g l = record {
  search : IsUnderWay (problem_of l.fn.task.problem.now) l.fn.self.book.budget l.self;
  kept : l.fn.self.best.time ≤ l.self.best.time;
  book : l.self.book ≡ l.fn.self.book;
  scratch : g.R.Rule.is_for l.scratch l.fn.task.problem.now.circuit.now;
  below : IsBelow (problem_of l.fn.task.problem.now) l.fn.lease l.below;
}
