use Rattle.std.proofs.Common.{rules, List, [], sym, subst}
use Rattle.td_certificate.specs.declared.tree.Node.{Node}
use Rattle.td_join.specs.Joining.{AreJoined, missing}
use Rattle.td_join.proofs.steps.empty_leaf.Goals as goal

pub returns-clause-step : goal.returns-clause-step
returns-clause-step c =
    subst (λ (nodes : List Node). AreJoined c.args.admit.now c.args.cube [] nodes)
    (sym (search rules)) (missing c.args.cube (search rules))
