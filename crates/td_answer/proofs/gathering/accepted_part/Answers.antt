use Rattle.td_answer.proofs.Whole.{not_judged}
use Rattle.td_answer.proofs.gathering.accepted_part.Goals as goal

pub returns-in-Err-clause-refusal : goal.returns-in-Err-clause-refusal
returns-in-Err-clause-refusal c = λ netlist. rw c.unjudged.ensures
    (not_judged c.args.text.now c.args.reading.now netlist c.args.name c.args.spelled.now c.in-Err.fault c.in-Err.ensures.fault)
