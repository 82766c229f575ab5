use Rattle.std.proofs.Common.{◌≡◌, ◌++◌, map, drop}
use Rattle.td_vcd.specs.Text.{event_of}
use Rattle.td_vcd.proofs.events.push_events.Given as goal

abbrev pub invariant-loop-change : goal.invariant-loop-change
invariant-loop-change l =
    l.events.items ++ map (event_of l.variable) (drop l.change-index l.change-items) ≡ l.initial.events.items ++ map (event_of l.variable) l.change-items
