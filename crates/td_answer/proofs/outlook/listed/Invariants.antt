use Rattle.std.proofs.Common.{take}
use Rattle.std.specs.List.{AllZip}
use Rattle.td_circuit.specs.Numbering.{setting}
use Rattle.td_source.specs.Each.{alone}
use Rattle.td_answer.specs.Outlooks.{IsTrueOutlook}
use Rattle.td_answer.proofs.outlook.listed.Given as goal

-- what is known of each of the first outputs is there
abbrev pub invariant-loop-net : goal.invariant-loop-net
invariant-loop-net l =
    AllZip (λ output. IsTrueOutlook (alone (setting l.circuit) output) l.admit) (take l.net-index l.circuit.netlist.outputs) l.outlooks.items
