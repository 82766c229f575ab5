use Rattle.std.proofs.Common.{arith}
use Rattle.td_domain.proofs.Changing.{vectors_in}
use Rattle.td_search.specs.declared.answers.Cause.TheVariants.{Memory}
use Rattle.td_worst.proofs.EdgeLeaves.{exact_by_edges}
use Rattle.td_worst.proofs.Standings.{reported_between, lowered, shown_above}
use Rattle.td_worst.proofs.refuting.OpenAnswer.bounded.Goals as goal

pub returns-then-bound-time-clause-answer : goal.returns-then-bound-time-clause-answer
returns-then-bound-time-clause-answer c = λ asked budget some sizes is of_cube greatest.
    rw (c.between.ensures, c.min-high.ensures) (reported_between asked budget _ c.args.why (lowered asked budget c.args.bound c.args.self is
    (λ pair delay admitted has. greatest pair delay admitted.pinned has)))

pub returns-in-Ok-clause-answer : goal.returns-in-Ok-clause-answer
returns-in-Ok-clause-answer c = λ asked budget some sizes is of_cube greatest.
    exact_by_edges asked budget some sizes c.args.self.best.pair c.args.self.best.time c.requires.small
    (vectors_in _ asked.admit.pins c.args.self.best.pair.first c.args.self.best.pair.second sizes.pins is.best.admitted.pinned)
    is.best c.args.bound of_cube greatest (omega (arith, c.if-bound-time.false)) c.in-Ok.tree c.in-Ok.ensures

pub returns-clause-answer : goal.returns-clause-answer
returns-clause-answer c = λ asked budget some sizes is of_cube greatest.
    rw c.between-2.ensures
    (reported_between asked budget _ Memory (shown_above asked budget c.args.bound c.args.self.best c.args.self.nodes is.best
    (λ pair delay admitted has. greatest pair delay admitted.pinned has) (omega (arith, c.if-bound-time.false)) c.requires.small is.within))
