use Rattle.td_answer.proofs.Whole.{bad_part}
use Rattle.td_answer.proofs.gathering.read_part.Goals as goal

pub returns-in-Err-clause-refusal : goal.returns-in-Err-clause-refusal
returns-in-Err-clause-refusal c = λ text reading netlist check.
    bad_part text reading netlist check c.args.name c.args.spelled.now c.in-Err.fault c.unread.result c.in-Err.ensures.fault c.unread.ensures
