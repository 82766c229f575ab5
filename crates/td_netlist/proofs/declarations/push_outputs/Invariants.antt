use Rattle.std.proofs.Common.{◌≡◌, ◌++◌, map, take}
use Rattle.td_netlist.specs.Checks.{placed_at}
use Rattle.td_netlist.specs.NameViews.{name_ref_of, placed_ref_of}
use Rattle.td_netlist.proofs.declarations.push_outputs.Given as goal

abbrev pub invariant-loop-net : goal.invariant-loop-net
invariant-loop-net l = map placed_ref_of l.outputs.items ≡ map placed_ref_of l.fn.outputs.items ++ placed_at l.direction.line (map name_ref_of (take l.net-index l.net-items))
