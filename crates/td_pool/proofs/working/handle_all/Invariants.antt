use Rattle.td_search.specs.Problems.{problem_of}
use Rattle.td_pool.specs.Working.{IsWorking}
use Rattle.td_pool.proofs.working.handle_all.Given as goal

abbrev pub invariant-loop : goal.invariant-loop
invariant-loop g l = record {
  scratch : g.Q.Rule.is_for l.scratch l.fn.task.problem.now.circuit.now;
  worker : IsWorking (problem_of l.fn.task.problem.now) l.worker.kept l.worker.evidence.items l.worker.share.parts;
  reported : g.W.Watch.reported (problem_of l.fn.task.problem.now) l.fn.watch l.watch;
}
