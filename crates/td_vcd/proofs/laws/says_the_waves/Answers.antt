use Rattle.td_nets.specs.WellFormed.{driven}
use Rattle.td_vcd.proofs.Named.{says_named}
use Rattle.td_vcd.proofs.laws.says_the_waves.Goals as goal

pub returns : goal.returns
returns c = λ netlist waves fine rise long. says_named netlist (driven netlist) waves fine.own fine.nets rise long
