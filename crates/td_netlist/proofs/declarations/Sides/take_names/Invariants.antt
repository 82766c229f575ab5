use Rattle.std.proofs.Common.{◌≡◌, drop, map}
use Rattle.td_syntax.specs.Views.{name_view}
use Rattle.td_netlist.specs.Checks as checks
use Rattle.td_netlist.specs.Checks.{each}
use Rattle.td_netlist.specs.CheckViews.{sides_of}
use Rattle.td_netlist.proofs.declarations.Sides.take_names.Given as goal

abbrev pub invariant-loop-port : goal.invariant-loop-port
invariant-loop-port l = each (checks.take_side l.directions) (sides_of l.self) (map name_view (drop l.port-index l.ports)) ≡ each (checks.take_side l.directions) (sides_of l.fn.self) (map name_view l.ports)
