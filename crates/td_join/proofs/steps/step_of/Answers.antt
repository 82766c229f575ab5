use Rattle.std.proofs.Common.{rules}
use Rattle.std.proofs.lemmas.Option.{slice_get_within}
use Rattle.td_domain.specs.declared.cubes.Trit.TheVariants.{Free}
use Rattle.td_join.proofs.Joins.{stuck, is_stuck}
use Rattle.td_join.proofs.Within.{two_parts}
use Rattle.td_join.proofs.steps.step_of.Goals as goal

pub returns-then-is_whole-clause-step : goal.returns-then-is_whole-clause-step
returns-then-is_whole-clause-step c = c.only_tree.ensures c.args.admit.now

pub halves-requires : goal.halves-requires
halves-requires c = slice_get_within _ c.in-Some.position Free c.in-Some.ensures.0

pub returns-in-None-clause-fault : goal.returns-in-None-clause-fault
returns-in-None-clause-fault c =
    is_stuck c.args.admit.now c.args.group.cube c.args.group.parts.items c.clash.result (rw (← c.deref.ensures.value) c.clash.ensures)
    c.in-None.ensures (stuck c.args.admit.now c.args.group (λ e. absurd (search rules)) (search rules) c.in-None.ensures)

pub clash-requires-clause-two : goal.clash-requires-clause-two
clash-requires-clause-two c =
    rw c.deref.ensures.value
    (two_parts c.args.group.cube c.args.group.parts.items (λ e. absurd (search rules)) (search rules) c.in-None.ensures c.requires.within)
