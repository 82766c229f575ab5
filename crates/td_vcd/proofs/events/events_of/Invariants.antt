use Rattle.std.proofs.Common.{◌≡◌, ◌++◌, drop}
use Rattle.td_vcd.specs.Text.{events_from}
use Rattle.td_vcd.proofs.Steps.{waves_behind}
use Rattle.td_vcd.proofs.events.events_of.Given as goal

abbrev pub invariant-loop-variable : goal.invariant-loop-variable
invariant-loop-variable l =
    l.events.items ++ events_from l.variable (drop l.variable (waves_behind l.waves)) ≡ events_from 0 (waves_behind l.waves)
