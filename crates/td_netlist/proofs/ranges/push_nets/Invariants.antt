use Rattle.std.proofs.Common.{◌≡◌, ◌++◌, map, Some}
use Rattle.td_netlist.specs.Ranges.{nets_of}
use Rattle.td_netlist.specs.NameViews.{name_ref_of}
use Rattle.td_netlist.proofs.Bits.{rest_of}
use Rattle.td_netlist.proofs.ranges.push_nets.Given as goal

abbrev pub invariant-loop-place : goal.invariant-loop-place
invariant-loop-place l = map name_ref_of l.nets.items ++ rest_of l.text l.range l.place ≡ map name_ref_of l.fn.nets.items ++ nets_of l.text (Some l.range)
