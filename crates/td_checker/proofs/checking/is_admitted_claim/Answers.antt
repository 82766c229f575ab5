use Rattle.std.proofs.Common.{Bool, Option, sym, subst}
use Rattle.std.specs.Prelude.{IfOk, IsTrue, ◌↔◌}
use Rattle.td_certificate.specs.declared.certificate.Claim.{Claim}
use Rattle.td_certificate.specs.Accepts.{ClaimsAdmitted}
use Rattle.td_certificate.specs.Questions.{asking_of}
use Rattle.td_checker.proofs.checking.is_admitted_claim.Goals as goal

pub returns-in-Some : goal.returns-in-Some
returns-in-Some c =
    subst (λ (claim : Option Claim). IfOk c.is_asked_about.result (λ (is : Bool). IsTrue is ↔ ClaimsAdmitted c.args.circuit.now.netlist (asking_of c.args.question.now) claim))
    (sym c.in-Some.is) c.is_asked_about.ensures
