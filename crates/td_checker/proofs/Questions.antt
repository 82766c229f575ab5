-- The verdict on a certificate of a whole netlist, from that on the circuit that it asks about.
use Rattle.std.proofs.Common.{◌≡◌, ℕ, List, Option, inl, inr, refl, subst}
use Rattle.td_nets.specs.Netlist.{Netlist}
use Rattle.td_source.specs.Kept.{AreNumbers, HasOutputs}
use Rattle.td_certificate.specs.declared.certificate.Certificate.{Certificate}
use Rattle.td_checker.specs.declared.verdict.Verdict.{Verdict}
use Rattle.td_checker.specs.declared.verdict.Verdict.TheVariants as verdict
use Rattle.td_checker.specs.Verdicts.{Said, outputs_for, IsVerdict, IsVerdictFor, IsVerdictOfWhole}

pub of_asked : (said : Said) (whole asked : Netlist) (c : Certificate) (numbers : Option (List ℕ)) (v : Verdict) → numbers ≡ outputs_for said.outputs c.question.terms
    → AreNumbers whole numbers × HasOutputs whole numbers asked → IsVerdict said asked c v → IsVerdictOfWhole said whole c v
of_asked said whole asked c numbers v same has is =
    subst (λ (o : Option (List ℕ)). IsVerdictFor said whole c o v) same (inl (has.0, (asked, has.1, is)))

pub of_other : (said : Said) (whole : Netlist) (c : Certificate) (numbers : Option (List ℕ)) → numbers ≡ outputs_for said.outputs c.question.terms
    → (¬ AreNumbers whole numbers) → IsVerdictOfWhole said whole c verdict.OtherCircuit
of_other said whole c numbers same none =
    subst (λ (o : Option (List ℕ)). IsVerdictFor said whole c o verdict.OtherCircuit) same (inr (none, refl))
