use Rattle.std.proofs.Common.{◌≡◌, map, take}
use Rattle.td_netlist.specs.PlacedNets.{different}
use Rattle.td_netlist.specs.NameViews.{name_ref_of}
use Rattle.td_netlist.proofs.drivers.driven_inputs.Given as goal

abbrev pub invariant-loop-input : goal.invariant-loop-input
invariant-loop-input l = l.names ≡ different (map name_ref_of (take l.input-index l.inputs))
