use Rattle.std.proofs.Common.{arith, refl}
use Rattle.td_domain.proofs.Changing.{vectors_in}
use Rattle.td_worst.proofs.Leaves.{exact_reported}
use Rattle.td_worst.proofs.Standings.{reported_between, lowered, shown_above}
use Rattle.td_worst.proofs.refuting.OpenAnswer.refuted.Goals as goal

pub returns-then-refuted-time-clause-answer : goal.returns-then-refuted-time-clause-answer
returns-then-refuted-time-clause-answer c = λ asked budget some sizes is shown.
    rw (c.between.ensures, c.min-high.ensures) (reported_between asked budget _ c.args.why (lowered asked budget c.args.refuted.now.bound c.args.self is shown.bound))

pub returns-then-refuted-time-clause-low : goal.returns-then-refuted-time-clause-low
returns-then-refuted-time-clause-low c = rw c.between.ensures refl

pub returns-then-refuted-time-clause-high : goal.returns-then-refuted-time-clause-high
returns-then-refuted-time-clause-high c = λ le. rw (c.between.ensures, c.min-high.ensures) (omega arith)

pub returns-in-Ok-Some-clause-answer : goal.returns-in-Ok-Some-clause-answer
returns-in-Ok-Some-clause-answer c = λ asked budget some sizes is shown.
    exact_reported asked budget some sizes c.args.self.best.pair c.args.self.best.time c.requires.small
    (vectors_in _ asked.admit.pins c.args.self.best.pair.first c.args.self.best.pair.second sizes.pins is.best.admitted.pinned)
    is.best c.args.refuted.now shown (omega (arith, c.if-refuted-time.false)) c.in-Ok-Some.tree (rw c.in-Ok-Some.field-0-is at c.in-Ok-Some.ensures)

pub returns-clause-answer : goal.returns-clause-answer
returns-clause-answer c = λ asked budget some sizes is shown.
    rw c.between-2.ensures
    (reported_between asked budget _ c.match-tree_of_leaf.cause (shown_above asked budget c.args.refuted.now.bound c.args.self.best c.args.self.nodes is.best shown.bound
    (omega (arith, c.if-refuted-time.false)) c.requires.small is.within))

pub returns-clause-low : goal.returns-clause-low
returns-clause-low c = rw c.between-2.ensures refl

pub returns-clause-high : goal.returns-clause-high
returns-clause-high c = λ le. rw c.between-2.ensures le

pub returns-then-refuted-time-clause-within : goal.returns-then-refuted-time-clause-within
returns-then-refuted-time-clause-within c = λ asked timed shown. rw (c.between.ensures, c.min-high.ensures) (omega arith)

pub returns-in-Ok-Some-clause-within : goal.returns-in-Ok-Some-clause-within
returns-in-Ok-Some-clause-within c = λ asked timed shown. shown.bound c.args.self.best.pair c.args.self.best.time timed.admitted timed.delay

pub returns-clause-within : goal.returns-clause-within
returns-clause-within c = λ asked timed shown. rw c.between-2.ensures (shown.bound c.args.self.best.pair c.args.self.best.time timed.admitted timed.delay)
