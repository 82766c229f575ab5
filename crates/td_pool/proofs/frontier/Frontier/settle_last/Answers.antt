use Rattle.std.proofs.Common.{List, sym, subst}
use Rattle.td_search.specs.declared.findings.Finding.TheVariants.{Closed, Split}
use Rattle.td_search.specs.Findings.{IsTrueFinding}
use Rattle.td_search.specs.Problems.{Problem, problem_by, IsAbove}
use Rattle.td_search.proofs.Bounded.{above_bound}
use Rattle.td_pool.specs.declared.leaf.OpenLeaf.{OpenLeaf}
use Rattle.td_pool.proofs.frontier.Frontier.settle_last.Goals as goal

pub close_last-requires : goal.close_last-requires
close_last-requires g c =
    let asked : Problem = problem_by c.args.problem.now.strategy c.args.problem.now.circuit.now c.args.problem.now.admit.now in
    let rest : List OpenLeaf = c.requires.last.0 in
    let leaf : OpenLeaf = c.requires.last.1 in
    let holds : IsTrueFinding asked leaf.cube (Closed c.in-Closed.field-0 c.in-Closed.bound) = subst (IsTrueFinding asked leaf.cube) c.in-Closed.is c.requires.last.3 in
    (rest, leaf, c.requires.last.2, subst (λ (a : Problem). IsAbove a leaf.cube c.in-Closed.bound) (sym c.requires.asked) holds.1)

pub halve_last-requires : goal.halve_last-requires
halve_last-requires g c =
    let asked : Problem = problem_by c.args.problem.now.strategy c.args.problem.now.circuit.now c.args.problem.now.admit.now in
    let rest : List OpenLeaf = c.requires.last.0 in
    let leaf : OpenLeaf = c.requires.last.1 in
    let holds : IsTrueFinding asked leaf.cube (Split c.in-Split.position c.in-Split.bound c.in-Split.field-2) = subst (IsTrueFinding asked leaf.cube) c.in-Split.is c.requires.last.3 in
    let above : IsAbove asked leaf.cube c.in-Split.bound = λ pair delay is_in is.
    above_bound c.args.problem.now.strategy c.args.problem.now.circuit.now c.gates-numbering.ensures.numbering c.moments-moments.ensures.fit leaf.cube c.in-Split.bound pair delay holds.1 is_in is.1 in
    (rest, leaf, c.requires.last.2, holds.0, subst (λ (a : Problem). IsAbove a leaf.cube c.in-Split.bound) (sym c.requires.asked) above)
