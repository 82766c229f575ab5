use Rattle.std.proofs.Common.{◌≡◌, map, take}
use Rattle.td_nets.specs.Views.{name_of}
use Rattle.td_source.specs.Kept.{AreAt}
use Rattle.td_source.specs.Places.{nets_at}
use Rattle.td_source.proofs.asking.choose.Given as goal

-- the names and nets so far
abbrev pub invariant-loop-number : goal.invariant-loop-number
invariant-loop-number l =
    AreAt l.circuit.netlist (take l.number-index l.numbers) (map name_of l.names.items)
    × (l.nets.items ≡ nets_at l.circuit (take l.number-index l.numbers))
