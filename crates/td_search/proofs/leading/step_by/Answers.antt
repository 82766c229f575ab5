use Rattle.std.proofs.Common.{refl}
use Rattle.td_search.proofs.leading.step_by.Goals as goal

pub returns-in-Some-clause-step : goal.returns-in-Some-clause-step
returns-in-Some-clause-step c = (
  c.in_ok-bound.ensures.bound c.in-Some.bound c.in-Some.is,
  c.in_ok-bound.ensures.sound c.in-Some.bound c.in-Some.is,
  c.in_ok-bound.ensures.within c.in-Some.bound c.in-Some.is,
  refl,
)

pub returns-in-Some-2-clause-step : goal.returns-in-Some-2-clause-step
returns-in-Some-2-clause-step c = (
  c.in_ok-bound-2.ensures.bound c.in-Some-2.bound c.in-Some-2.is,
  c.in_ok-bound-2.ensures.sound c.in-Some-2.bound c.in-Some-2.is,
  c.in_ok-bound-2.ensures.within c.in-Some-2.bound c.in-Some-2.is,
  refl,
)

pub returns-then-bound-cut-clause-step : goal.returns-then-bound-cut-clause-step
returns-then-bound-cut-clause-step c = c.open_step.ensures.step c.args.cut c.if-bound-cut.true

pub returns-then-bound-cut-2-clause-step : goal.returns-then-bound-cut-2-clause-step
returns-then-bound-cut-2-clause-step c = (
  rw (← c.in_ok-bound.ensures.cube) c.bound_with_edges-bound.ensures.bound,
  rw (← c.in_ok-bound.ensures.cube) c.bound_with_edges-bound.ensures.sound,
  c.if-bound-cut-2.true,
  refl,
)
