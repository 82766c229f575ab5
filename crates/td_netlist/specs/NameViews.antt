-- Internal: borrowed names and directions, without where they lie in memory.
use Rattle.std.specs.Prelude.{ℕ, List, Option, None, Some}
use Rattle.std.specs.Borrow.{Bor}
use Rattle.td_netlist.specs.declared.name_ref.NameRef as code_name_ref
use Rattle.td_netlist.specs.declared.name_ref.Direction as code_direction
use Rattle.td_netlist.specs.declared.name_ref.NetRef as code_name_ref_net
use Rattle.td_netlist.specs.declared.name_ref.NetRef.TheVariants as net
use Rattle.td_netlist.specs.declared.name_ref.PlacedRef as code_placed
use Rattle.td_nets.specs.Netlist.{Name, Net, Low, High, Named}
use Rattle.td_netlist.specs.PlacedNets.{Placed}
use Rattle.td_netlist.specs.Module.{Declared}

abbrev pub name_ref_of : code_name_ref.NameRef → Name
name_ref_of name = record { text = name.text.now; bit = name.bit }

abbrev pub declared_of : Bor (List ℕ) × code_direction.Direction → Declared
declared_of e = record { role = e.1.role; range = e.1.range; name = record { name = e.0.now; line = e.1.line } }

-- a direction that was found for this name
abbrev pub found_of : List ℕ → Option code_direction.Direction → Option Declared
found_of name None = None
found_of name (Some d) = Some (record { role = d.role; range = d.range; name = record { name = name; line = d.line } })

abbrev pub net_ref_of : code_name_ref_net.NetRef → Net
net_ref_of net.Low = Low
net_ref_of net.High = High
net_ref_of (net.Named name) = Named (name_ref_of name)

abbrev pub placed_ref_of : code_placed.PlacedRef → Placed
placed_ref_of p = record { net = name_ref_of p.net; line = p.line }
