use Rattle.td_search.specs.Problems.{problem_of}
use Rattle.td_worst.proofs.telling.refuted_told.Goals as goal

pub passed-requires : goal.passed-requires
passed-requires g c = c.progress_of.ensures (problem_of c.args.problem.now) c.args.budget c.requires.known

pub passed-requires-2 : goal.passed-requires-2
passed-requires-2 g c = c.progress_of-2.ensures (problem_of c.args.problem.now) c.args.budget c.refuted_further-shown.ensures.answer

pub returns-clause-reported : goal.returns-clause-reported
returns-clause-reported g c =
    g.met.W.Watch.reported_both (problem_of c.args.problem.now) _ _ _ c.passed.ensures c.passed-2.ensures
