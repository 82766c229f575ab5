use Rattle.td_circuit.specs.Numbering.{nets}
use Rattle.td_circuit.proofs.Nets.{numbers-below}
use Rattle.td_path.proofs.Outputs.{explains, explains_none}
use Rattle.td_path.proofs.chains.latest_chain.Goals as goal

pub latest_net-requires : goal.latest_net-requires
latest_net-requires c = rw (c.outputs.ensures, c.requires.run.count)
    (numbers-below (nets c.args.circuit.now) c.args.circuit.now.outputs _ c.gates-gates.ensures.numbering.outputs)

pub returns-in-Some : goal.returns-in-Some
returns-in-Some c = explains c.args.circuit.now c.args.run.now c.gates-gates.ensures.numbering c.requires.run c.in-Some.net
    (rw c.outputs.ensures at c.in-Some.ensures) c.chain_of.result c.chain_of.ensures

pub returns-in-None : goal.returns-in-None
returns-in-None c = explains_none c.args.circuit.now c.args.run.now c.gates-gates.ensures.numbering c.requires.run
    (rw c.outputs.ensures at c.in-None.ensures)
