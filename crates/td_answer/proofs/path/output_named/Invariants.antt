use Rattle.td_answer.proofs.Ways.{NoneSoFar}
use Rattle.td_answer.proofs.path.output_named.Given as goal

abbrev pub invariant-loop-output : goal.invariant-loop-output
invariant-loop-output l = NoneSoFar l.circuit l.word l.output-index
