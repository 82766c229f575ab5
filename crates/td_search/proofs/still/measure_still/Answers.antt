use Rattle.std.proofs.Common.{List, subst}
use Rattle.td_domain.specs.declared.cubes.Trit.{Trit}
use Rattle.td_search.specs.Problems.{problem_of, has_bound}
use Rattle.td_search.proofs.still.measure_still.Goals as goal

pub returns-clause-best : goal.returns-clause-best
returns-clause-best g c = (c.in_ok-admit.ensures.admitted _ c.begin.ensures.best.0.0, c.begin.ensures.best.0.1)

pub returns-clause-bound : goal.returns-clause-bound
returns-clause-bound g c = subst (λ (cube : List Trit). has_bound (problem_of c.args.task.now.problem.now) cube c.in-Ok.root.bound) c.in_ok-admit.ensures.pins c.in-Ok.ensures.root.bound
