use Rattle.td_vcd.proofs.Named.{says_named}
use Rattle.td_vcd.proofs.laws.says_the_named.Goals as goal

pub returns : goal.returns
returns c = λ netlist names waves own fine rise long. says_named netlist names waves own fine rise long
