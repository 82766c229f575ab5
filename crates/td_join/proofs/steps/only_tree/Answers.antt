use Rattle.std.proofs.Common.{sym, ◌∙◌}
use Rattle.td_join.proofs.Joins.{own_tree, last_part}
use Rattle.td_join.proofs.steps.only_tree.Goals as goal

pub returns-in-Some : goal.returns-in-Some
returns-in-Some c admit =
    own_tree admit c.args.group.cube c.args.group.parts.items c.requires _
    (last_part _ _ _ c.requires.part c.in-Some.part c.requires.only c.pop.ensures.items c.in-Some.is ∙ sym c.into_nodes.ensures.nodes)
