use Rattle.td_worst.proofs.Supported.{less_within_tree}
use Rattle.td_worst.proofs.combining.with_tree.Goals as goal

pub returns-clause-within : goal.returns-clause-within
returns-clause-within c = λ asked budget more is also first second.
    let narrower = c.combined.ensures.narrower asked budget more is also in
    c.earlier_tree.ensures.within _ (less_within_tree _ _ c.args.first.tree narrower.0.high first) (less_within_tree _ _ c.args.second.tree narrower.1.high second)
