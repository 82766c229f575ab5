-- A netlist that is asked about other outputs.
use Rattle.std.specs.Prelude.{List}
use Rattle.std.specs.List.{Contains}
use Rattle.td_nets.specs.Netlist.{Name, Netlist}
use Rattle.td_nets.specs.WellFormed.{IsDistinct, gate_outputs}

-- these can be outputs of the netlist: each is the output of a gate, and none stands twice
pub record CanBeOutputs (netlist : Netlist) (outputs : List Name) : Type 0 where
  pub driven : (name : Name) → Contains outputs name → Contains (gate_outputs netlist) name
  pub distinct : IsDistinct outputs

-- the netlist with these outputs
abbrev pub with_outputs : Netlist → List Name → Netlist
with_outputs netlist outputs = record netlist { outputs = outputs }
