use Rattle.td_spans.specs.States.{variables_in, times_in, clauses_in}
use Rattle.td_spans.proofs.Steps.{again_keeps}
use Rattle.td_spans.proofs.spans.Spans.again.Goals as goal

pub returns-clause-sound : goal.returns-clause-sound
returns-clause-sound c = λ asked cube fits old.
    again_keeps c.args.circuit.now asked cube fits (variables_in c.args.self.now) (variables_in c.take_again.new.self) (times_in c.args.self.now) (times_in c.take_again.new.self)
    (clauses_in c.args.self.now) (clauses_in c.take_again.new.self) c.take_again.result c.take_again.ensures.variables old c.args.net
    c.take_again.ensures.clauses c.take_again.ensures.driven c.take_again.ensures.net c.take_again.ensures.again c.take_again.ensures.same
