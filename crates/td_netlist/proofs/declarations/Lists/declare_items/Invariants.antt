use Rattle.std.proofs.Common.{◌≡◌, drop, map}
use Rattle.td_syntax.specs.Views.{item_view}
use Rattle.td_netlist.specs.Checks as checks
use Rattle.td_netlist.specs.Checks.{each}
use Rattle.td_netlist.specs.CheckViews.{lists_of}
use Rattle.td_netlist.proofs.declarations.Lists.declare_items.Given as goal

abbrev pub invariant-loop-item : goal.invariant-loop-item
invariant-loop-item l = each checks.declare_item (lists_of l.self) (map item_view (drop l.item-index l.items)) ≡ each checks.declare_item (lists_of l.fn.self) (map item_view l.items)
