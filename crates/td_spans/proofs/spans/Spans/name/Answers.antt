use Rattle.td_spans.specs.States.{variables_in, times_in, clauses_in}
use Rattle.td_spans.proofs.Steps.{name_keeps}
use Rattle.td_spans.proofs.spans.Spans.name.Goals as goal

pub returns-clause-sound : goal.returns-clause-sound
returns-clause-sound c = λ asked old.
    name_keeps c.args.circuit.now c.args.question.now c.args.cube.now asked (variables_in c.args.self.now) (variables_in c.add_named.new.self) (times_in c.args.self.now) (times_in c.add_named.new.self)
    (clauses_in c.args.self.now) (clauses_in c.add_named.new.self) c.add_named.result c.add_named.ensures.variables old c.args.reason c.args.clause.now
    c.add_named.ensures.times c.add_named.ensures.named c.add_named.ensures.added c.add_named.ensures.same
