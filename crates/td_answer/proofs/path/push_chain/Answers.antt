use Rattle.std.proofs.lemmas.Result.{on_ok_weaker}
use Rattle.td_circuit.specs.Numbering.{nets}
use Rattle.td_path.specs.Chains.{net_at}
use Rattle.td_answer.specs.Additions.{waves_in}
use Rattle.td_answer.proofs.Ways.{chain_named, tells_net, tells_never}
use Rattle.td_answer.proofs.path.push_chain.Goals as goal

pub changes_line-requires : goal.changes_line-requires
changes_line-requires c = rw c.deref.ensures.value
    (chain_named c.args.circuit.now (waves_in c.args.circuit.now c.args.run.now) (net_at (nets c.args.circuit.now) c.args.net) c.in-Some.links.items
    (rw c.in-Some.is at c.in_ok-links.ensures))

pub returns-in_ok-line-in-Some : goal.returns-in_ok-line-in-Some
returns-in_ok-line-in-Some c =
    on_ok_weaker c.add.result
    (tells_net c.args.circuit.now c.args.run.now c.args.net c.in-Some.links.items c.in_ok-line-in-Some.line c.args.report.now c.add.new.self
    (rw c.in-Some.is at c.in_ok-links.ensures) (rw c.deref.ensures.value at c.in_ok-line-in-Some.ensures))
    c.add.ensures

pub returns-in-None : goal.returns-in-None
returns-in-None c =
    on_ok_weaker c.push_never.result
    (tells_never c.args.circuit.now c.args.run.now c.args.net c.args.report.now c.push_never.new.report (rw c.in-None.is at c.in_ok-links.ensures))
    c.push_never.ensures
