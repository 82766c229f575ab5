use Rattle.td_spans.specs.States.{variables_in, times_in, clauses_in}
use Rattle.td_spans.proofs.Bounding.{nets_quiet, latest_bounds}
use Rattle.td_spans.proofs.spans.Spans.bound.Goals as goal

pub returns-clause-quiet : goal.returns-clause-quiet
returns-clause-quiet c = λ circuit asked cube fits refutes.
    rw (c.latest_of.ensures, c.deref.ensures.value)
    (nets_quiet circuit fits.numbering fits.moments cube fits.whole asked (variables_in c.args.self.now) (times_in c.args.self.now) (clauses_in c.args.self.now) refutes
    c.args.nets.now)

pub returns-clause-sound : goal.returns-clause-sound
returns-clause-sound c = λ circuit asked cube fits same refutes.
    rw (c.latest_of.ensures, c.deref.ensures.value, same)
    (latest_bounds circuit fits.numbering fits.moments cube fits.whole asked (variables_in c.args.self.now) (times_in c.args.self.now) (clauses_in c.args.self.now) refutes)
