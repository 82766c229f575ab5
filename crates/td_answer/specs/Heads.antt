-- The lines with which a report begins.
use Rattle.std.specs.Prelude.{List, [], ◌∷◌}
use Rattle.td_nets.specs.Netlist.{Netlist}
use Rattle.td_lines.specs.declared.line.Line.{Line}
use Rattle.td_lines.specs.declared.line.Line.TheVariants as line

-- how long a step takes, and how many gates the default delay serves
abbrev pub head_lines : Netlist → List Line
head_lines netlist = line.Unit netlist.unit ∷ line.Defaulted netlist.defaulted ∷ []
