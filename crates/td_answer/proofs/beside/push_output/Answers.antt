use Rattle.std.proofs.lemmas.Result.{on_ok_weaker}
use Rattle.td_answer.proofs.OutputNets.{named_number}
use Rattle.td_answer.proofs.Ways.{none_latest, latest_named}
use Rattle.td_answer.proofs.beside.push_output.Goals as goal

pub output_line-requires-clause-constant : goal.output_line-requires-clause-constant
output_line-requires-clause-constant c =
    let latest = rw c.in-Some.is at c.latest_output.ensures in
    (named_number c.args.circuit.now _ latest.0 latest.1).0

pub output_line-requires-clause-net : goal.output_line-requires-clause-net
output_line-requires-clause-net c =
    let latest = rw c.in-Some.is at c.latest_output.ensures in
    (named_number c.args.circuit.now _ latest.0 latest.1).1

pub returns-in_ok-line-in-Some : goal.returns-in_ok-line-in-Some
returns-in_ok-line-in-Some c =
    on_ok_weaker c.add.result
    (latest_named c.args.circuit.now c.args.run.now c.in-Some.net c.in_ok-line-in-Some.line c.args.report.now c.add.new.self
    (rw c.in-Some.is at c.latest_output.ensures) c.in_ok-line-in-Some.ensures)
    c.add.ensures

pub returns-in-None : goal.returns-in-None
returns-in-None c = none_latest c.args.circuit.now c.args.run.now c.args.report.now (rw c.in-None.is at c.latest_output.ensures)
