use Rattle.td_answer.proofs.Outlooks.{bound_among}
use Rattle.td_circuit.specs.Numbering.{setting}
use Rattle.td_answer.specs.Columns.{pairs_of, where_settles}
use Rattle.td_answer.proofs.alone.answer_where.Goals as goal

pub returns-in-Some-clause-answer : goal.returns-in-Some-clause-answer
returns-in-Some-clause-answer g c =
    bound_among (setting c.args.alone.circuit.now) (where_settles (pairs_of c.args.alone.inquiry) c.args.alone.net c.args.settled.form) c.in-Some.high
    (c.requires.outlook.bound.sound c.in-Some.high (c.at_the_end.ensures c.in-Some.high c.in-Some.is))
