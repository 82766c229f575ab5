use Rattle.std.proofs.Common.{subst}
use Rattle.std.proofs.lemmas.Result.{IfOk-weaker}
use Rattle.td_circuit.specs.Settings.{Setting}
use Rattle.td_refutation.specs.Asking.{Asking}
use Rattle.td_worst.specs.Kept.{LiesBetweenAmong}
use Rattle.td_worst.specs.declared.kept_answer.KeptAnswer.{KeptAnswer}
use Rattle.td_lines.specs.declared.line.Hazard.{Hazard}
use Rattle.td_answer.specs.Columns.{IsTrueAnswer}
use Rattle.td_answer.specs.Hazards.{IsTrueHazard}
use Rattle.td_answer.proofs.Hazardous.{worst_between}
use Rattle.td_answer.proofs.hazards.hazard_in.Goals as goal

pub returns-in-Exact : goal.returns-in-Exact
returns-in-Exact c =
    IfOk-weaker c.between.result
    (λ (hazard : Hazard). (given : Setting) (asking : Asking) → LiesBetweenAmong given asking c.in-Exact.best c.in-Exact.best.time → IsTrueHazard given asking hazard)
    (λ (hazard : Hazard). (given : Setting) (asking : Asking) → IsTrueAnswer given asking c.args.answer.now → IsTrueHazard given asking hazard)
    (λ hazard says given asking is.
    says given asking (worst_between given asking c.in-Exact.best (subst (λ (answer : KeptAnswer). IsTrueAnswer given asking answer) c.in-Exact.is is)))
    c.between.ensures

pub returns-in-Open : goal.returns-in-Open
returns-in-Open c = λ given asking is.
    c.below.ensures given asking (subst (λ (answer : KeptAnswer). IsTrueAnswer given asking answer) c.in-Open.is is)
