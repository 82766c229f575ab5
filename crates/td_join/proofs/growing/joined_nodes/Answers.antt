use Rattle.std.proofs.Common.{rules, List, [], ◌∷◌, ◌++◌, sym, ap, subst, ◌∙◌}
use Rattle.std.proofs.lemmas.Result.{err_from_is_err_and}
use Rattle.td_certificate.specs.declared.tree.Node.{Node}
use Rattle.td_certificate.specs.declared.tree.Node.TheVariants as node
use Rattle.td_join.specs.declared.parts.Group.{Group}
use Rattle.td_join.specs.Steps.{certificates_of}
use Rattle.td_join.specs.Stacks.{IsUnderWay}
use Rattle.td_join.proofs.Stacking.{top_known, leaf, halves, ended, tree_fault}
use Rattle.td_join.proofs.Weights.{leaf_smaller, halves_smaller}
use Rattle.td_join.proofs.growing.joined_nodes.Goals as goal

pub step_of-requires-clause-order : goal.step_of-requires-clause-order
step_of-requires-clause-order c =
    let way = subst (λ (gs : List Group). IsUnderWay (certificates_of c.args.parts.items) c.args.admit.now c.loop-group.nodes.items gs) c.in-Some.ensures.items c.loop-group.invariant in
    (top_known (certificates_of c.args.parts.items) c.args.admit.now c.loop-group.nodes.items c.pop.new.self.items c.in-Some.group way).in_order

pub step_of-requires-clause-within : goal.step_of-requires-clause-within
step_of-requires-clause-within c =
    let way = subst (λ (gs : List Group). IsUnderWay (certificates_of c.args.parts.items) c.args.admit.now c.loop-group.nodes.items gs) c.in-Some.ensures.items c.loop-group.invariant in
    (top_known (certificates_of c.args.parts.items) c.args.admit.now c.loop-group.nodes.items c.pop.new.self.items c.in-Some.group way).within

pub returns-in_err-tree-clause-fault : goal.returns-in_err-tree-clause-fault
returns-in_err-tree-clause-fault c =
    let way = subst (λ (gs : List Group). IsUnderWay (certificates_of c.args.parts.items) c.args.admit.now c.loop-group.nodes.items gs) c.in-Some.ensures.items c.loop-group.invariant in
    let known = top_known (certificates_of c.args.parts.items) c.args.admit.now c.loop-group.nodes.items c.pop.new.self.items c.in-Some.group way in
    let reported = err_from_is_err_and c.from_residual-in_err-tree.result c.from_residual-in_err-tree.ensures.1 in
    rw (reported.1, reported.2) (tree_fault (certificates_of c.args.parts.items) c.args.admit.now c.in-Some.group _ known c.in_err-tree.ensures.fault)

pub loop-group-smaller-in-Leaf : goal.loop-group-smaller-in-Leaf
loop-group-smaller-in-Leaf c = leaf_smaller _ _ c.in-Some.group c.in-Some.ensures.items

pub loop-group-preserved-in-Leaf : goal.loop-group-preserved-in-Leaf
loop-group-preserved-in-Leaf c =
    let way = subst (λ (gs : List Group). IsUnderWay (certificates_of c.args.parts.items) c.args.admit.now c.loop-group.nodes.items gs) c.in-Some.ensures.items c.loop-group.invariant in
    let step = rw c.in-Leaf.is at c.in_ok-tree.ensures.step in
    subst (λ (ns : List Node). IsUnderWay (certificates_of c.args.parts.items) c.args.admit.now ns c.pop.new.self.items)
    (sym c.in_ok-append-in-Leaf.ensures.items)
    (leaf (certificates_of c.args.parts.items) c.args.admit.now c.loop-group.nodes.items c.pop.new.self.items c.in-Some.group c.in-Leaf.tree.items way step)

pub loop-group-smaller : goal.loop-group-smaller
loop-group-smaller c =
    let step = rw c.in-Halves.is at c.in_ok-tree.ensures.step in
    halves_smaller _ _ _ _ c.in-Some.group c.in-Halves.low c.in-Halves.high c.in-Halves.position c.in-Some.ensures.items
    c.in_ok-push-in-Halves-2.ensures.items c.in_ok-push-in-Halves-3.ensures.items step.0 step.2 step.4

pub loop-group-preserved : goal.loop-group-preserved
loop-group-preserved c =
    let way = subst (λ (gs : List Group). IsUnderWay (certificates_of c.args.parts.items) c.args.admit.now c.loop-group.nodes.items gs) c.in-Some.ensures.items c.loop-group.invariant in
    let step = rw c.in-Halves.is at c.in_ok-tree.ensures.step in
    subst (λ (ns : List Node). IsUnderWay (certificates_of c.args.parts.items) c.args.admit.now ns c.push-in-Halves-3.new.self.items)
    (sym c.in_ok-push-in-Halves.ensures.items)
    (subst (λ (gs : List Group). IsUnderWay (certificates_of c.args.parts.items) c.args.admit.now (c.loop-group.nodes.items ++ node.Split c.in-Halves.position ∷ []) gs)
    (ap (λ (gs : List Group). gs ++ c.in-Halves.low ∷ []) (sym c.in_ok-push-in-Halves-2.ensures.items) ∙ sym c.in_ok-push-in-Halves-3.ensures.items)
    (halves (certificates_of c.args.parts.items) c.args.admit.now c.loop-group.nodes.items c.pop.new.self.items c.in-Some.group c.in-Halves.low c.in-Halves.high
    c.in-Halves.position way step.6 step.0 step.1 step.2 step.3 step.4 step.5))

pub returns-clause-tree : goal.returns-clause-tree
returns-clause-tree c =
    ended (certificates_of c.args.parts.items) c.args.admit.now c.loop-group.nodes.items
    (subst (λ (gs : List Group). IsUnderWay (certificates_of c.args.parts.items) c.args.admit.now c.loop-group.nodes.items gs) (search rules) c.loop-group.invariant)
