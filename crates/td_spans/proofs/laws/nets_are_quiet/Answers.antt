use Rattle.td_spans.proofs.Bounding.{nets_quiet}
use Rattle.td_spans.proofs.laws.nets_are_quiet.Goals as goal

pub returns : goal.returns
returns c = λ circuit asked cube variables fits times clauses refutes numbers.
    nets_quiet circuit fits.numbering fits.moments cube fits.whole asked variables times clauses refutes numbers
