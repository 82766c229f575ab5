use Rattle.std.proofs.Common.{subst}
use Rattle.td_search.specs.declared.findings.Finding.TheVariants as finding
use Rattle.td_search.specs.Findings.{IsTrueFinding, IsUsable}
use Rattle.td_search.specs.Problems.{problem_of}
use Rattle.td_search.proofs.progress.Search.bound_above.Goals as goal

pub returns-in-Split-clause-bound : goal.returns-in-Split-clause-bound
returns-in-Split-clause-bound g c =
    let given = c.args.task.now.problem.now in
    let here : IsTrueFinding (problem_of given) c.args.cube.now (finding.Split c.in-Split.field-0 c.in-Split.bound c.in-Split.field-2) =
    subst (IsTrueFinding (problem_of given) c.args.cube.now) c.in-Split.is c.in_ok-bound.ensures.finding in
    here.1

pub returns-in-Split-clause-small : goal.returns-in-Split-clause-small
returns-in-Split-clause-small g c =
    let given = c.args.task.now.problem.now in
    let here : IsTrueFinding (problem_of given) c.args.cube.now (finding.Split c.in-Split.field-0 c.in-Split.bound c.in-Split.field-2) =
    subst (IsTrueFinding (problem_of given) c.args.cube.now) c.in-Split.is c.in_ok-bound.ensures.finding in
    here.2

pub returns-in-Split-clause-wide : goal.returns-in-Split-clause-wide
returns-in-Split-clause-wide g c =
    let given = c.args.task.now.problem.now in
    let here : IsTrueFinding (problem_of given) c.args.cube.now (finding.Split c.in-Split.field-0 c.in-Split.bound c.in-Split.field-2) =
    subst (IsTrueFinding (problem_of given) c.args.cube.now) c.in-Split.is c.in_ok-bound.ensures.finding in
    let low : IsUsable c.find.new.self.best.time (finding.Split c.in-Split.field-0 c.in-Split.bound c.in-Split.field-2) =
    subst (IsUsable c.find.new.self.best.time) c.in-Split.is c.in_ok-bound.ensures.usable in
    record { delay = c.in-Split.field-2; bound = c.in-Split.bound; above = here.3; has_bound = here.1; within = low; below = here.4 }
