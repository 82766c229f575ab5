use Rattle.std.proofs.Common.{◌≡◌, drop, map}
use Rattle.td_syntax.specs.Views.{name_view}
use Rattle.td_netlist.specs.Checks as checks
use Rattle.td_netlist.specs.Checks.{each}
use Rattle.td_netlist.specs.CheckViews.{lists_of}
use Rattle.td_netlist.proofs.declarations.Lists.declare_names.Given as goal

abbrev pub invariant-loop-name : goal.invariant-loop-name
invariant-loop-name l = each (checks.declare l.role l.range) (lists_of l.self) (map name_view (drop l.name-index l.names)) ≡ each (checks.declare l.role l.range) (lists_of l.fn.self) (map name_view l.names)
