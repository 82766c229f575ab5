use Rattle.td_answer.proofs.Whole.{unjoined_for}
use Rattle.td_answer.proofs.join.whole_of.Goals as goal

pub returns-in-Err-clause-refusal : goal.returns-in-Err-clause-refusal
returns-in-Err-clause-refusal c =
    unjoined_for _ _ c.args.asked.now.circuit.moments (record { admit = c.args.asked.now.admit; keep = c.args.asked.now.keep.items }) c.in-Err.fault c.unjoined.result (rw c.pins.ensures.pins at c.in-Err.ensures.fault) c.unjoined.ensures
