use Rattle.std.proofs.lemmas.Result.{on_ok_weaker}
use Rattle.td_answer.proofs.Ways.{run_told}
use Rattle.td_answer.proofs.beside.push_shown.Goals as goal

pub returns : goal.returns
returns c =
    on_ok_weaker c.push_way.result
    (run_told c.args.shown c.args.circuit.now c.args.run.now c.args.report.now _ c.push_way.new.report c.in_ok-push_last.ensures)
    c.push_way.ensures
