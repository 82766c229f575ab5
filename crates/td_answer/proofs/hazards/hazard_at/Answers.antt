use Rattle.td_circuit.specs.Numbering.{setting}
use Rattle.td_answer.specs.Columns.{pairs_of, where_settles}
use Rattle.td_answer.specs.Hazards.{settles_at}
use Rattle.td_answer.proofs.hazards.hazard_at.Goals as goal

pub returns-clause-hazard : goal.returns-clause-hazard
returns-clause-hazard g c =
    c.in_ok-hazard.ensures (setting c.args.alone.circuit.now) (where_settles (pairs_of c.args.alone.inquiry) c.args.alone.net (settles_at c.args.level))
    (rw c.settles_at.ensures at c.in_ok-answer.ensures.answer)
