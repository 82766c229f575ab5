use Rattle.td_search.specs.Below.{IsBelow}
use Rattle.td_search.specs.Problems.{problem_of}
use Rattle.td_pool.specs.Truth.{IsKeeping}
use Rattle.td_pool.proofs.working.work_below.Given as goal

abbrev pub invariant-loop : goal.invariant-loop
invariant-loop g l = record {
  scratch : g.R.Rule.is_for l.scratch l.fn.task.problem.now.circuit.now;
  keeps : IsKeeping (problem_of l.fn.task.problem.now) l.kept;
  below : IsBelow (problem_of l.fn.task.problem.now) l.fn.lease l.below;
}
