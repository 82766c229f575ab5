use Rattle.std.proofs.Common.{map, refl}
use Rattle.std.specs.Prelude.{None}
use Rattle.td_refutation.specs.Whole.{step_of}
use Rattle.td_worst.proofs.KeptLeaves.{none_certified}
use Rattle.td_worst.proofs.kept_answer.Known.emptied.Goals as goal

pub returns-in-Some-clause-answer : goal.returns-in-Some-clause-answer
returns-in-Some-clause-answer c = λ given admit fitted known empty. (
  empty.none,
  none_certified given admit c.args.keep.now fitted (record { steps = map step_of c.args.steps.now; bound = None }) refl empty.steps_end c.in-Some.tree c.in-Some.ensures,
)

pub returns-in-None-clause-time : goal.returns-in-None-clause-time
returns-in-None-clause-time c = λ can_be_set needs. c.open.ensures.time can_be_set (λ e. cc)
