use Rattle.std.proofs.Common.{◌≡◌, drop, map}
use Rattle.td_syntax.specs.Views.{terminal_view}
use Rattle.td_netlist.specs.Checks as checks
use Rattle.td_netlist.specs.Checks.{each}
use Rattle.td_netlist.specs.CheckViews.{drivers_of}
use Rattle.td_netlist.specs.NameViews.{name_ref_of}
use Rattle.td_netlist.proofs.drivers.Drivers.drive_terminals.Given as goal

abbrev pub invariant-loop-terminal : goal.invariant-loop-terminal
invariant-loop-terminal l = each (checks.drive (map name_ref_of l.inputs)) (drivers_of l.self) (map terminal_view (drop l.terminal-index l.terminals)) ≡ each (checks.drive (map name_ref_of l.inputs)) (drivers_of l.fn.self) (map terminal_view l.terminals)
