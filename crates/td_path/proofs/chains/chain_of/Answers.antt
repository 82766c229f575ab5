use Rattle.std.proofs.Common.{sym}
use Rattle.td_path.proofs.Walking.{is_chain, no_chain, change_at_last}
use Rattle.td_path.proofs.chains.chain_of.Goals as goal

pub returns-in_default : goal.returns-in_default
returns-in_default c = no_chain c.args.circuit.now c.args.run.now c.gates-gates.ensures.numbering c.requires.run c.args.net c.requires.net
    (sym c.in_default.ensures)

pub links_back-requires-clause-change : goal.links_back-requires-clause-change
links_back-requires-clause-change c = change_at_last c.args.circuit.now c.args.run.now c.gates-gates.ensures.numbering c.requires.run
    c.args.net c.in-Some.moment c.requires.net (sym c.in-Some.ensures)

pub returns : goal.returns
returns c = is_chain c.args.circuit.now c.args.run.now c.gates-gates.ensures.numbering c.requires.run c.args.net c.in-Some.moment
    c.in_ok-links.links.items c.reverse.new.self.items c.requires.net (sym c.in-Some.ensures) c.in_ok-links.ensures c.reverse.ensures.items
