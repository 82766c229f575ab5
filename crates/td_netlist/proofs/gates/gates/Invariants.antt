use Rattle.std.proofs.Common.{◌≡◌, drop, map}
use Rattle.td_netlist.specs.Making as making
use Rattle.td_netlist.specs.Checks.{each}
use Rattle.td_nets.specs.Views.{gate_of}
use Rattle.td_netlist.specs.CheckViews.{primitive_of}
use Rattle.std.proofs.Common.{[]}
use Rattle.td_netlist.proofs.gates.gates.Given as goal

abbrev pub invariant-loop-primitive : goal.invariant-loop-primitive
invariant-loop-primitive l = each (making.with_gates l.names l.timing.tens l.timing.default) (map gate_of l.gates.items) (map primitive_of (drop l.primitive-index l.primitives)) ≡ each (making.with_gates l.names l.timing.tens l.timing.default) ([]) (map primitive_of l.primitives)
