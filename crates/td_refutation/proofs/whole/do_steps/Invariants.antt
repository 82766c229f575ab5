use Rattle.std.proofs.Common.{map, take}
use Rattle.td_refutation.specs.Doing.{state_of, first_state}
use Rattle.td_refutation.specs.Whole.{step_of}
use Rattle.td_refutation.proofs.Lists.{IsLed}
use Rattle.td_refutation.proofs.whole.do_steps.Given as goal

abbrev pub invariant-loop-place : goal.invariant-loop-place
invariant-loop-place l = IsLed l.circuit l.question l.cube (first_state l.circuit l.question l.cube) (state_of l.refutation) (take l.place (map step_of l.steps))
