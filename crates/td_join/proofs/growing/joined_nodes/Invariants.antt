use Rattle.td_join.specs.Steps.{certificates_of}
use Rattle.td_join.specs.Stacks.{IsUnderWay, weights}
use Rattle.td_join.proofs.growing.joined_nodes.Given as goal

abbrev pub invariant-loop-group : goal.invariant-loop-group
invariant-loop-group l = IsUnderWay (certificates_of l.fn.parts.items) l.admit l.nodes.items l.groups.items

abbrev pub decreases-loop-group : goal.decreases-loop-group
decreases-loop-group l = weights l.groups.items
