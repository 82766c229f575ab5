use Rattle.std.proofs.Common.{◌≡◌, drop, map}
use Rattle.td_syntax.specs.Views.{name_view}
use Rattle.td_netlist.specs.Checks as checks
use Rattle.td_netlist.specs.Checks.{each}
use Rattle.td_netlist.specs.CheckViews.{lists_of}
use Rattle.td_netlist.proofs.declarations.Lists.list_ports.Given as goal

abbrev pub invariant-loop-port : goal.invariant-loop-port
invariant-loop-port l = each (checks.with_port) (lists_of l.self) (map name_view (drop l.port-index l.ports)) ≡ each (checks.with_port) (lists_of l.fn.self) (map name_view l.ports)
