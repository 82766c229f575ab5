use Rattle.std.proofs.Common.{◌≡◌, map, take}
use Rattle.td_netlist.specs.NameViews.{name_ref_of}
use Rattle.td_nets.specs.Views.{name_of}
use Rattle.td_netlist.proofs.meaning.owned_names.Given as goal

abbrev pub invariant-loop-name : goal.invariant-loop-name
invariant-loop-name l = map name_of l.copies.items ≡ map name_ref_of (take l.name-index l.names)
