use Rattle.std.proofs.Common.{◌≡◌, map, take}
use Rattle.std.specs.Prelude.{sum_by}
use Rattle.td_netlist.specs.Module.{defaulted_of}
use Rattle.td_netlist.specs.CheckViews.{primitive_of}
use Rattle.td_netlist.proofs.primitive.defaulted_count.Given as goal

abbrev pub invariant-loop-primitive : goal.invariant-loop-primitive
invariant-loop-primitive l = l.count ≡ sum_by defaulted_of (map primitive_of (take l.primitive-index l.primitives))
