use Rattle.std.proofs.Common.{◌≡◌, take, map}
use Rattle.std.specs.List.{flat_map}
use Rattle.td_syntax.specs.Views.{item_view}
use Rattle.td_netlist.specs.Module.{item_primitives}
use Rattle.td_netlist.specs.CheckViews.{primitive_of}
use Rattle.td_netlist.proofs.primitive.primitives.Given as goal

abbrev pub invariant-loop-item : goal.invariant-loop-item
invariant-loop-item l = map primitive_of l.primitives.items ≡ flat_map item_primitives (map item_view (take l.item-index l.source.items.items))
