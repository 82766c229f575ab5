use Rattle.std.proofs.Common.{◌≡◌, map, take}
use Rattle.td_nets.specs.Views.{name_of}
use Rattle.td_source.proofs.each_output.names_of.Given as goal

-- the names so far
abbrev pub invariant-loop-net : goal.invariant-loop-net
invariant-loop-net l = map name_of l.names.items ≡ take l.net-index l.circuit.netlist.outputs
