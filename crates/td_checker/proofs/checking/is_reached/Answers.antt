use Rattle.std.proofs.Common.{Bool, Option, sym, subst}
use Rattle.std.specs.Prelude.{IfOk, IsTrue, ◌↔◌}
use Rattle.td_circuit.specs.Numbering.{setting}
use Rattle.td_certificate.specs.declared.certificate.Claim.{Claim}
use Rattle.td_certificate.specs.Accepts.{ClaimsDelay}
use Rattle.td_checker.proofs.checking.is_reached.Goals as goal

pub returns-in-Some-clause-reached : goal.returns-in-Some-clause-reached
returns-in-Some-clause-reached c =
    subst (λ (claim : Option Claim). IfOk c.has_its_time.result (λ (is : Bool). IsTrue is ↔ ClaimsDelay (setting c.args.circuit.now) claim))
    (sym c.in-Some.is) c.has_its_time.ensures.reached
