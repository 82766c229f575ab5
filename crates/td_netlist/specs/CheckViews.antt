-- Internal: what the checks keep, without where it lies in memory.
use Rattle.std.specs.Prelude.{map}
use Rattle.td_syntax.specs.Views.{terminal_view, option_delay_view}
use Rattle.td_netlist.specs.declared.primitive.Primitive as code_primitive
use Rattle.td_netlist.specs.declared.declarations.Lists as code_lists
use Rattle.td_netlist.specs.declared.declarations.Ported as code_ported
use Rattle.td_netlist.specs.declared.declarations.Sides as code_sides
use Rattle.td_netlist.specs.declared.drivers.Drivers as code_drivers
use Rattle.td_netlist.specs.Module.{Primitive}
use Rattle.td_netlist.specs.Checks as checks
use Rattle.td_netlist.specs.NameViews.{name_ref_of, placed_ref_of}

abbrev pub primitive_of : code_primitive.Primitive → Primitive
primitive_of p = record { kind = p.kind; delay = option_delay_view p.delay; terminals = map terminal_view p.terminals.now }

abbrev pub lists_of : code_lists.Lists → checks.Lists
lists_of l = record { listed = l.listed; directions = l.directions; inputs = l.inputs; wires = l.wires; names = l.names }

abbrev pub sides_of : code_sides.Sides → checks.Sides
sides_of s = record { inputs = map name_ref_of s.inputs.items; outputs = map placed_ref_of s.outputs.items }

abbrev pub drivers_of : code_drivers.Drivers → checks.Drivers
drivers_of d = record { driven = d.driven; names = d.names }

abbrev pub ported_of : code_ported.Ported → checks.Ported
ported_of p = record { role = p.role; range = p.range; lists = lists_of p.lists }
