use Rattle.td_spans.specs.States.{variables_in, times_in, clauses_in, count_in}
use Rattle.td_spans.proofs.Steps.{lower_keeps}
use Rattle.td_spans.proofs.spans.Spans.lower.Goals as goal

pub returns-clause-sound : goal.returns-clause-sound
returns-clause-sound c = λ circuit asked cube fits old.
    lower_keeps circuit asked cube fits (variables_in c.args.self.now) (variables_in c.lower_end.new.self) (times_in c.args.self.now) (times_in c.lower_end.new.self)
    (clauses_in c.args.self.now) (clauses_in c.lower_end.new.self) c.lower_end.result c.lower_end.ensures.variables old c.args.net c.args.level c.args.place (count_in c.args.self.now)
    c.args.clause.now c.args.hints.now c.lower_end.ensures.clauses c.lower_end.ensures.net c.lower_end.ensures.rests c.lower_end.ensures.shown c.lower_end.ensures.lowered c.lower_end.ensures.same
