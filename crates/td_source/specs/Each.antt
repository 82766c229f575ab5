-- A circuit that is asked about one of its outputs.
use Rattle.std.specs.Prelude.{[], ◌∷◌}
use Rattle.td_nets.specs.Netlist.{Name}
use Rattle.td_nets.specs.Outputs.{with_outputs}
use Rattle.td_circuit.specs.Numbering.{Numbered}
use Rattle.td_circuit.specs.Settings.{Setting}

-- the same setting, whose netlist has the output of this name alone
abbrev pub alone : Setting → Name → Setting
alone setting output = record { netlist = with_outputs setting.netlist (output ∷ []); moments = setting.moments }

-- a circuit, and what is asked of it for the present
pub record Asking : Type 0 where
  pub whole : Numbered
  pub asked : Numbered
