-- Internal: the conditions on the names of a module as the checks keep them, in place of the nets
-- and drivers of the netlist.
use Rattle.std.specs.Prelude.{◌≤◌}
use Rattle.std.specs.List.{Contains}
use Rattle.td_syntax.specs.Grammar as grammar
use Rattle.td_nets.specs.Netlist.{Name}
use Rattle.td_nets.specs.WellFormed.{IsDistinct}
use Rattle.td_netlist.specs.Means.{AreDeclared, TerminalsJoinNets}
use Rattle.td_netlist.specs.Module.{is_input, ports_as}
use Rattle.td_netlist.specs.PlacedNets.{nets_at, outputs_in, inputs_in, output_bits, net_count, input_count, driven_in}

-- No net has two drivers, no gate drives an input, and what is read or is an output is driven.
pub record AreDriven (m : grammar.Module) : Type 0 where
  pub driven_once : IsDistinct (nets_at (outputs_in m))
  pub inputs_free : (name : Name) → Contains (nets_at (outputs_in m)) name → ¬ Contains (ports_as is_input m) name
  pub reads_driven : (name : Name) → Contains (nets_at (inputs_in m)) name → Contains (driven_in m) name
  pub outputs_driven : (name : Name) → Contains (nets_at (output_bits m)) name → Contains (driven_in m) name

-- the limits on inputs and nets; those on gates and their terminals are kept by the syntax tree
pub record IsWithin (m : grammar.Module) : Type 0 where
  pub few_inputs : input_count m ≤ 4096
  pub few_nets : net_count m ≤ 1000000

-- the conditions on the names of a module
pub record IsConsistent (m : grammar.Module) : Type 0 where
  pub declared : AreDeclared m
  pub joined : TerminalsJoinNets m
  pub driven : AreDriven m
  pub within : IsWithin m
