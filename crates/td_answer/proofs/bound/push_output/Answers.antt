use Rattle.std.proofs.lemmas.Result.{on_ok_weaker}
use Rattle.td_answer.proofs.OutputNets.{named_number}
use Rattle.td_answer.proofs.LatestBound.{no_output, bound_named}
use Rattle.td_answer.proofs.bound.push_output.Goals as goal

pub output_line-requires-clause-constant : goal.output_line-requires-clause-constant
output_line-requires-clause-constant c =
    let found = rw c.in-Some.is at c.in_ok-net.ensures in
    (named_number c.args.circuit.now _ found.0 found.1).0

pub output_line-requires-clause-net : goal.output_line-requires-clause-net
output_line-requires-clause-net c =
    let found = rw c.in-Some.is at c.in_ok-net.ensures in
    (named_number c.args.circuit.now _ found.0 found.1).1

pub returns-in_ok-line-in-Some : goal.returns-in_ok-line-in-Some
returns-in_ok-line-in-Some c =
    on_ok_weaker c.add.result
    (bound_named c.args.circuit.now c.args.cube.now c.args.bound c.in-Some.net c.in_ok-line-in-Some.line c.args.report.now c.add.new.self
    (rw c.in-Some.is at c.in_ok-net.ensures) c.in_ok-line-in-Some.ensures)
    c.add.ensures

pub returns-in-None : goal.returns-in-None
returns-in-None c = no_output c.args.circuit.now c.args.cube.now c.args.bound c.args.report.now (rw c.in-None.is at c.in_ok-net.ensures)
