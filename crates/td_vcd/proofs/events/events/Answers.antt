use Rattle.std.proofs.Common.{◌≤◌}
use Rattle.std.proofs.lemmas.List.Sorted.{All-permutation}
use Rattle.td_vcd.specs.declared.events.Event.{Event}
use Rattle.td_vcd.proofs.Moments.{sorted_lines}
use Rattle.td_vcd.proofs.Steps.{events_small, waves_behind}
use Rattle.td_vcd.proofs.events.events.Goals as goal

pub returns-clause-lines : goal.returns-clause-lines
returns-clause-lines c = rw (← c.in_ok-events.ensures)
    (sorted_lines _ _ c.in_ok-sort.ensures.moved c.in_ok-sort.ensures.sorted c.in_ok-sort.ensures.stable)

pub returns-clause-small : goal.returns-clause-small
returns-clause-small c =
    All-permutation (λ (event : Event). event.moment ≤ 200001000000000) _ _ c.in_ok-sort.ensures.moved
    (rw c.in_ok-events.ensures (events_small 200001000000000 0 (waves_behind c.args.waves.now) c.requires))
