use Rattle.std.proofs.lemmas.Result.{on_ok_weaker}
use Rattle.td_answer.proofs.Ways.{pair_told}
use Rattle.td_answer.proofs.beside.push_run.Goals as goal

pub returns : goal.returns
returns c =
    on_ok_weaker c.push_shown.result
    (pair_told c.args.shown c.args.circuit.now c.args.pair.now c.in_ok-run.run' c.args.report.now c.push_shown.new.report c.in_ok-run.ensures.runs)
    c.push_shown.ensures
