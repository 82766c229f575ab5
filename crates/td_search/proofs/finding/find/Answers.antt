use Rattle.td_search.specs.Problems.{problem_of}
use Rattle.td_search.proofs.Decided.{nothing_there}
use Rattle.td_search.proofs.finding.find.Goals as goal

pub returns-then-not-any-clause-finding : goal.returns-then-not-any-clause-finding
returns-then-not-any-clause-finding g c = nothing_there (problem_of c.args.task.now.problem.now) c.args.cube.now (λ there. let reported = c.if-not-any.ensures.1 there in cc)
