use Rattle.std.proofs.Common.{◌≡◌, take, map}
use Rattle.std.specs.List.{flat_map}
use Rattle.td_syntax.specs.Views.{terminal_view, item_view}
use Rattle.td_netlist.specs.Module.{item_primitives, outputs_of}
use Rattle.td_hints.proofs.drivers.outputs_in.Given as goal

abbrev pub invariant-loop-item : goal.invariant-loop-item
invariant-loop-item l = map terminal_view l.found.items ≡ flat_map outputs_of (flat_map item_primitives (map item_view (take l.item-index l.tree.items.items)))
