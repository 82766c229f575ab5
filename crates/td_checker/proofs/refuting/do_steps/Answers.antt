use Rattle.td_checker.proofs.StepLaws.{one_more, first_bad_step, all_done}
use Rattle.td_checker.proofs.refuting.do_steps.Goals as goal

pub returns-in-Some-2-clause-stepped : goal.returns-in-Some-2-clause-stepped
returns-in-Some-2-clause-stepped c =
    first_bad_step c.args.circuit.now c.args.question.now c.args.cube.now c.args.refuted.now.steps c.loop-numbers.steps c.next.new.self c.loop-numbers.place c.loop-numbers.refutation
    c.do_step.new.refutation c.in-Some.kind c.next.new.numbers.items c.in-Some-2.flaw c.loop-numbers.invariant (rw c.in-Some.is at c.in_ok-kind.ensures)
    (rw (c.in-Some-2.is, c.deref.ensures.value) at c.in_ok-flaw.ensures) c.steps-steps.ensures.few

pub loop-numbers-preserved : goal.loop-numbers-preserved
loop-numbers-preserved c =
    one_more c.args.circuit.now c.args.question.now c.args.cube.now c.args.refuted.now.steps c.loop-numbers.steps c.next.new.self c.loop-numbers.place c.loop-numbers.refutation
    c.do_step.new.refutation c.in-Some.kind c.next.new.numbers.items c.loop-numbers.invariant (rw c.in-Some.is at c.in_ok-kind.ensures)
    (rw (c.in_default-2.is, c.deref.ensures.value) at c.in_ok-flaw.ensures)

pub returns-clause-stepped : goal.returns-clause-stepped
returns-clause-stepped c =
    all_done c.args.circuit.now c.args.question.now c.args.cube.now c.args.refuted.now.steps c.loop-numbers.steps c.next.new.self c.loop-numbers.place c.loop-numbers.refutation
    c.next.new.numbers.items c.loop-numbers.invariant (rw c.in_default.is at c.in_ok-kind.ensures) c.steps-steps.ensures.few
