use Rattle.td_spans.specs.States.{variables_in, times_in, clauses_in, count_in}
use Rattle.td_spans.proofs.Steps.{lemma_keeps}
use Rattle.td_spans.proofs.spans.Spans.lemma.Goals as goal

pub returns-clause-sound : goal.returns-clause-sound
returns-clause-sound c = λ circuit asked cube fits old.
    lemma_keeps circuit asked cube fits (variables_in c.args.self.now) (variables_in c.add_lemma.new.self) (times_in c.args.self.now) (times_in c.add_lemma.new.self)
    (clauses_in c.args.self.now) (clauses_in c.add_lemma.new.self) c.add_lemma.result c.add_lemma.ensures.variables old (count_in c.args.self.now) c.args.clause.now c.args.hints.now
    c.add_lemma.ensures.times c.add_lemma.ensures.shown c.add_lemma.ensures.added c.add_lemma.ensures.same
