use Rattle.std.proofs.Common.{◌≡◌, drop, map}
use Rattle.td_netlist.specs.Checks as checks
use Rattle.td_netlist.specs.Checks.{each}
use Rattle.td_netlist.specs.CheckViews.{drivers_of, primitive_of}
use Rattle.td_netlist.proofs.drivers.Drivers.read_each.Given as goal

abbrev pub invariant-loop-primitive : goal.invariant-loop-primitive
invariant-loop-primitive l = each (checks.read_all (drivers_of l.self)) (tt) (map primitive_of (drop l.primitive-index l.primitives)) ≡ each (checks.read_all (drivers_of l.self)) (tt) (map primitive_of l.primitives)
