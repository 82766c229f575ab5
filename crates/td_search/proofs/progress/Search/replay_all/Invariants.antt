use Rattle.std.proofs.Common.{◌≤◌}
use Rattle.td_search.specs.Problems.{problem_of}
use Rattle.td_search.specs.Progress.{IsUnderWay}
use Rattle.td_search.specs.Redone.{IsLater}
use Rattle.td_search.proofs.progress.Search.replay_all.Given as goal

abbrev pub invariant-loop-node : goal.invariant-loop-node
invariant-loop-node g l = record {
  search : IsUnderWay (problem_of l.fn.task.problem.now) l.fn.self.book.budget l.self;
  kept : l.fn.self.best.time ≤ l.self.best.time;
  later : IsLater l.fn.self.book l.self.book;
  scratch : g.R.Rule.is_for l.scratch l.fn.task.problem.now.circuit.now;
}
