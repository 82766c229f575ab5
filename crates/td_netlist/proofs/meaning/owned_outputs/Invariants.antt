use Rattle.std.proofs.Common.{◌≡◌, map, take}
use Rattle.td_netlist.specs.PlacedNets.{nets_at}
use Rattle.td_netlist.specs.NameViews.{placed_ref_of}
use Rattle.td_nets.specs.Views.{name_of}
use Rattle.td_netlist.proofs.meaning.owned_outputs.Given as goal

abbrev pub invariant-loop-output : goal.invariant-loop-output
invariant-loop-output l = map name_of l.copies.items ≡ nets_at (map placed_ref_of (take l.output-index l.outputs))
