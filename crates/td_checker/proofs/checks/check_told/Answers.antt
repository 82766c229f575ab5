use Rattle.td_checker.proofs.checks.check_told.Goals as goal

pub returns-in-Ok-Some-clause-reported : goal.returns-in-Ok-Some-clause-reported
returns-in-Ok-Some-clause-reported c = rw (c.in-Ok-Some.is, c.in-Ok-Some.field-0-is) at c.check_told_until.ensures.reported

pub returns-in-Ok-Some-clause-spelled : goal.returns-in-Ok-Some-clause-spelled
returns-in-Ok-Some-clause-spelled c = rw (c.in-Ok-Some.is, c.in-Ok-Some.field-0-is) at c.check_told_until.ensures.spelled

pub returns-in-Ok-Some-clause-only : goal.returns-in-Ok-Some-clause-only
returns-in-Ok-Some-clause-only c = λ verdict have.
    rw (c.in-Ok-Some.is, c.in-Ok-Some.field-0-is) at c.check_told_until.ensures.only verdict have

pub returns-in-Ok-Some-clause-truth : goal.returns-in-Ok-Some-clause-truth
returns-in-Ok-Some-clause-truth c = rw (c.in-Ok-Some.is, c.in-Ok-Some.field-0-is) at c.check_told_until.ensures.truth

pub returns-clause-only : goal.returns-clause-only
returns-clause-only c = λ verdict have. rw c.in-Err.is at c.check_told_until.ensures.only verdict have
