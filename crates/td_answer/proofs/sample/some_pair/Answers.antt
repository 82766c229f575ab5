use Rattle.td_answer.proofs.sample.some_pair.Goals as goal

pub representative-requires-clause-any : goal.representative-requires-clause-any
representative-requires-clause-any c = c.any.ensures.0 c.if-not-any.false

pub representative-requires-clause-part : goal.representative-requires-clause-part
representative-requires-clause-part c = λ pair is. rw c.pins-pins.ensures.pins at is

pub representative-requires-clause-positions : goal.representative-requires-clause-positions
representative-requires-clause-positions c = rw c.pins-pins.ensures.pins c.pins-pins.ensures.fit
