use Rattle.std.proofs.Common.{◌≡◌, drop, map}
use Rattle.td_netlist.specs.NameViews.{placed_ref_of}
use Rattle.td_netlist.specs.Checks as checks
use Rattle.td_netlist.specs.Checks.{each}
use Rattle.td_netlist.specs.CheckViews.{drivers_of}
use Rattle.td_netlist.proofs.drivers.Drivers.read_outputs.Given as goal

abbrev pub invariant-loop-output : goal.invariant-loop-output
invariant-loop-output l = each (checks.read_placed (drivers_of l.self).driven) (tt) (map placed_ref_of (drop l.output-index l.outputs)) ≡ each (checks.read_placed (drivers_of l.self).driven) (tt) (map placed_ref_of l.outputs)
