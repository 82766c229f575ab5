use Rattle.std.proofs.Common.{length}
use Rattle.td_checker.proofs.StepLaws.{AreUnderWay}
use Rattle.td_checker.proofs.refuting.do_steps.Given as goal

abbrev pub invariant-loop-numbers : goal.invariant-loop-numbers
invariant-loop-numbers l = AreUnderWay l.circuit l.question l.cube l.refuted.steps l.steps l.place l.refutation

abbrev pub decreases-loop-numbers : goal.decreases-loop-numbers
decreases-loop-numbers l = length l.steps
