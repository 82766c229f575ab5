use Rattle.std.proofs.lemmas.Result.{err_from_is_err_and}
use Rattle.td_answer.proofs.gathering.part.Goals as goal

pub returns-in_err-part-clause-refusal : goal.returns-in_err-part-clause-refusal
returns-in_err-part-clause-refusal c =
    let reported = err_from_is_err_and c.from_residual.result c.from_residual.ensures.1 in
    rw (reported.1, reported.2) (c.in_err-part.ensures.refusal c.args.circuit.now.netlist)
