use Rattle.td_spans.proofs.Bounding.{empty_none}
use Rattle.td_spans.proofs.laws.empty_has_none.Goals as goal

pub returns : goal.returns
returns c = λ circuit asked cube variables fits times clauses refutes is.
    empty_none circuit fits.numbering fits.moments cube fits.whole asked variables times clauses refutes is
