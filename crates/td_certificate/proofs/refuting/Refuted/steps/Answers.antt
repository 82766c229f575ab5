use Rattle.std.proofs.Common.{◌<◌, length, subst, arith}
use Rattle.td_certificate.specs.Steps.{Refuted}
use Rattle.td_certificate.proofs.StepLoops.{steps_few}
use Rattle.td_certificate.proofs.refuting.Refuted.steps.Goals as goal

pub returns-clause-few : goal.returns-clause-few
returns-clause-few c =
    subst (λ (r : Refuted). length r.steps < 9223372036854775808) c.self.view_is
    (omega (arith, steps_few _ c.self.invariant, c.self.inside.inside.value.lines.ok.0, c.self.inside.inside.value.lines.ok.1, c.self.inside.inside.value.lines.small))
