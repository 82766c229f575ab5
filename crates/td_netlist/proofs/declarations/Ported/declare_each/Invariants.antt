use Rattle.std.proofs.Common.{◌≡◌, drop, map}
use Rattle.td_syntax.specs.Views.{port_view}
use Rattle.td_netlist.specs.Ranges.{IsLimited}
use Rattle.td_netlist.specs.Checks as checks
use Rattle.td_netlist.specs.Checks.{each}
use Rattle.td_netlist.specs.CheckViews.{ported_of}
use Rattle.td_netlist.proofs.declarations.Ported.declare_each.Given as goal

abbrev pub invariant-loop-port : goal.invariant-loop-port
invariant-loop-port l = (each checks.declare_port (ported_of l.self) (map port_view (drop l.port-index l.ports)) ≡ each checks.declare_port (ported_of l.fn.self) (map port_view l.ports)) × IsLimited l.self.range
