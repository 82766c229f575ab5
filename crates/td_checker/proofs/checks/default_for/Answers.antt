use Rattle.std.proofs.Common.{◌≡◌, Some, sym, subst}
use Rattle.td_gates.specs.Delays.{IsInRange}
use Rattle.td_certificate.specs.Questions.{Terms}
use Rattle.td_checker.proofs.Texts.{default_in_range}
use Rattle.td_checker.proofs.checks.default_for.Goals as goal

pub invariant_of-result : goal.invariant_of-result
invariant_of-result c =
    let told : Some c.in-Some.terms.now ≡ c.args.certificate.now.question.terms = rw c.in-Some.is at c.terms.ensures in
    subst (λ (terms : Terms). IsInRange terms.default) (sym c.terms-in-Some.view_is) (default_in_range c.args.certificate.now c.in-Some.terms.now c.requires told)
