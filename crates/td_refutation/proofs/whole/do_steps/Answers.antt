use Rattle.std.proofs.Common.{length, refl}
use Rattle.std.proofs.lemmas.Option.{slice_get_read}
use Rattle.td_refutation.specs.Doing.{state_of, first_state}
use Rattle.td_refutation.proofs.Lists.{led_mapped, stopped}
use Rattle.td_refutation.proofs.whole.do_steps.Goals as goal

pub returns-in-Err-Flaw : goal.returns-in-Err-Flaw
returns-in-Err-Flaw c =
    let refused = rw (c.deref.ensures.value, c.in-Err-Flaw.field-0-is) at c.in-Err-Flaw.ensures in
    rw c.in-Err-Flaw.flaw-is (stopped c.args.circuit.now c.args.question.now c.args.cube.now (state_of c.loop-place.refutation) c.args.steps.now c.loop-place.place c.index-steps-place.result c.in-Err-Flaw.flaw
    (slice_get_read c.args.steps.now (length c.args.steps.now) c.loop-place.place _ refl c.loop-place-test.true c.index-steps-place.is)
    c.loop-place.invariant refused.0.0 refused.0.1)

pub loop-place-preserved : goal.loop-place-preserved
loop-place-preserved c =
    let good = rw c.deref.ensures.value at c.in-Ok.ensures in
    led_mapped c.args.circuit.now c.args.question.now c.args.cube.now (first_state c.args.circuit.now c.args.question.now c.args.cube.now) (state_of c.loop-place.refutation)
    (state_of c.step.new.self) c.args.steps.now c.loop-place.place c.index-steps-place.result
    (slice_get_read c.args.steps.now (length c.args.steps.now) c.loop-place.place _ refl c.loop-place-test.true c.index-steps-place.is)
    c.loop-place.invariant good.0 good.1
