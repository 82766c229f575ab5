use Rattle.std.proofs.Common.{List, [], sym, subst}
use Rattle.td_domain.specs.Worst.{IsUpperBound}
use Rattle.td_search.specs.Problems.{Problem, problem_by}
use Rattle.td_pool.specs.declared.leaf.OpenLeaf.{OpenLeaf}
use Rattle.td_pool.specs.Frontiers.{IsCover}
use Rattle.td_pool.specs.Watched.{IsFound}
use Rattle.td_pool.proofs.Covers.{root_found, root_above, root_greatest, cover_none}
use Rattle.td_pool.proofs.frontier.Frontier.unkept.Goals as goal

pub invariant_of-result-clause-found : goal.invariant_of-result-clause-found
invariant_of-result-clause-found g c =
    subst (λ (a : Problem). IsFound a c.args.root.first) (sym c.requires.asked)
    (root_found (problem_by c.args.problem.now.strategy c.args.problem.now.circuit.now c.args.problem.now.admit.now) c.args.root c.requires.root)

pub invariant_of-result-clause-greatest : goal.invariant_of-result-clause-greatest
invariant_of-result-clause-greatest g c =
    subst (λ (a : Problem). IsUpperBound a.setting a.admit c.args.root.bound) (sym c.requires.asked)
    (root_greatest c.args.problem.now.strategy c.args.problem.now.circuit.now c.args.problem.now.admit.now c.gates-numbering.ensures.numbering c.moments-moments.ensures.fit c.args.root c.requires.root)

pub invariant_of-result-clause-cover : goal.invariant_of-result-clause-cover
invariant_of-result-clause-cover g c =
    let asked : Problem = problem_by c.args.problem.now.strategy c.args.problem.now.circuit.now c.args.problem.now.admit.now in
    subst (λ (l : List OpenLeaf). IsCover g.L.Subject.asked c.args.root.bound l) (sym c.new.ensures.items)
    (subst (λ (a : Problem). IsCover a c.args.root.bound []) (sym c.requires.asked)
    (cover_none asked c.args.root.bound
    (root_above c.args.problem.now.strategy c.args.problem.now.circuit.now c.args.problem.now.admit.now c.gates-numbering.ensures.numbering c.moments-moments.ensures.fit c.args.root c.requires.root)))
