use Rattle.std.proofs.lemmas.Result.{IfOk-weaker}
use Rattle.td_checker.specs.Saying.{said_of}
use Rattle.td_checker.proofs.Questions.{of_asked, of_other}
use Rattle.td_checker.proofs.comparing.verdict_of_whole.Goals as goal

pub returns-in-Some-clause-verdict : goal.returns-in-Some-clause-verdict
returns-in-Some-clause-verdict c =
    IfOk-weaker c.verdict_on.result _ _
    (λ v is. of_asked (said_of c.args.said.now) c.args.circuit.netlist c.in-Some.asked.netlist c.args.certificate.now _ v c.outputs_for-numbers.ensures
    (rw c.in-Some.is at c.in_ok-found.ensures.some) is)
    c.verdict_on.ensures.verdict

pub returns-in-None-clause-verdict : goal.returns-in-None-clause-verdict
returns-in-None-clause-verdict c =
    of_other (said_of c.args.said.now) c.args.circuit.netlist c.args.certificate.now _ c.outputs_for-numbers.ensures (rw c.in-None.is at c.in_ok-found.ensures.none)
