use Rattle.td_certificate.specs.Questions.{asking_of}
use Rattle.td_checker.proofs.StepLaws.{bad_step_found, done_found}
use Rattle.td_checker.proofs.refuting.judge_refuted.Goals as goal

pub returns-in-Bad-clause-judged : goal.returns-in-Bad-clause-judged
returns-in-Bad-clause-judged c =
    bad_step_found c.args.circuit.now c.gates-gates.ensures.numbering (asking_of c.args.question.now) c.args.most c.args.cube.now c.args.refuted.now _ (rw (c.admit.ensures, c.keep.ensures) at c.in_ok-asked.ensures) c.in-Bad.place c.in-Bad.flaw (rw c.in-Bad.is at c.in_ok-place.ensures.stepped)

pub returns-clause-judged : goal.returns-clause-judged
returns-clause-judged c =
    done_found c.args.circuit.now c.gates-gates.ensures.numbering (asking_of c.args.question.now) c.args.most c.args.cube.now c.args.refuted.now _ (rw (c.admit.ensures, c.keep.ensures) at c.in_ok-asked.ensures) _ c.in-Done.count
    (rw c.in-Done.is at c.in_ok-place.ensures.stepped) _ c.judge_done.ensures
