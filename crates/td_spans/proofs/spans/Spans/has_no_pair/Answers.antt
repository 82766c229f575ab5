use Rattle.std.proofs.Common.{◌∙◌, sym}
use Rattle.td_spans.specs.States.{variables_in, times_in, clauses_in}
use Rattle.td_spans.proofs.Bounding.{empty_none}
use Rattle.td_spans.proofs.spans.Spans.has_no_pair.Goals as goal

pub returns-clause-sound : goal.returns-clause-sound
returns-clause-sound c = λ circuit asked cube fits refutes so.
    empty_none circuit fits.numbering fits.moments cube fits.whole asked (variables_in c.args.self.now) (times_in c.args.self.now) (clauses_in c.args.self.now) refutes
    (sym c.end_empty.ensures ∙ so)
