use Rattle.td_circuit.specs.Numbering.{setting}
use Rattle.td_answer.specs.Columns.{pairs_of, where_settles}
use Rattle.td_answer.proofs.EachOne.{true_where}
use Rattle.td_answer.proofs.changes.found_where.Goals as goal

pub returns-clause-found : goal.returns-clause-found
returns-clause-found g c =
    rw c.kept_found.ensures (true_where (setting c.args.alone.circuit.now) (where_settles (pairs_of c.args.alone.inquiry) c.args.alone.net c.args.settled.form)
    c.in_ok-answer.answer c.in_ok-answer.ensures.answer)
