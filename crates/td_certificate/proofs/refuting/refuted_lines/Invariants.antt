use Rattle.std.proofs.Common.{length}
use Rattle.td_certificate.proofs.StepLoops.{AreRead}
use Rattle.td_certificate.proofs.refuting.refuted_lines.Given as goal

abbrev pub invariant-lines : goal.invariant-lines
invariant-lines l = AreRead l.text l.rest

abbrev pub decreases-lines : goal.decreases-lines
decreases-lines l = length l.rest
