-- Certificates that are accepted, and their texts.
use Rattle.std.specs.Prelude.{◌≡◌, ℕ, ◌≤◌, false, List, length, Option, Some, None}
use Rattle.td_reading.specs.declared.reading.Reading.{Reading}
use Rattle.td_reading.specs.declared.told.Told.{Told}
use Rattle.td_nets.specs.Netlist.{Netlist}
use Rattle.td_source.specs.Reads.{ReadsNetlist, AreOutputsOf}
use Rattle.td_circuit.specs.Settings.{AreMoments}
use Rattle.td_run.specs.Laws.{IsAcyclic}
use Rattle.td_certificate.specs.Questions.{Terms, inputs_of}
use Rattle.td_certificate.specs.Lengths.{CanTell}
use Rattle.td_certificate.specs.declared.certificate.Certificate.{Certificate}
use Rattle.td_certificate.specs.declared.certificate.Claim.{Claim}
use Rattle.td_certificate.specs.Spelling.{HasSpelling, spelling}
use Rattle.td_certificate.specs.Faults.{IsWithinLimit}
use Rattle.td_certificate.specs.Trees.{has_refuted}
use Rattle.td_certificate.specs.Accepts.{Accepts}
use Rattle.td_checker.specs.declared.verdict.Verdict.TheVariants as verdict
use Rattle.td_checker.specs.Checks.{HaveVerdict, told_by}

-- the certificate can be written, what is written is within the limit, and the verdict on it is
-- Accepted
pub record IsAcceptedAsWritten (netlist_text : List ℕ) (reading : Reading) (c : Certificate) : Type 0 where
  pub has : HasSpelling c
  pub within : IsWithinLimit (spelling c)
  pub verdict : (told : Told) → HaveVerdict netlist_text reading told (spelling c) verdict.Accepted

-- terms tell these delays and these outputs, or there are none
abbrev pub AreTerms : Terms → Option Terms → Type 0
AreTerms told None = Unit {0}
AreTerms told (Some terms) = (terms.default ≡ told.default) × (terms.outputs ≡ told.outputs)

-- the certificate tells these terms, or none where its tree needs none
abbrev pub CanBeTold : Terms → Certificate → Type 0
CanBeTold told c = AreTerms told c.question.terms × CanTell c.tree c.question.terms

-- A certificate that is accepted of the netlist that is read of a text, tells how that is read, and
-- has a text within the limit, is accepted as it is written, whatever shows the bounds of its leaves.
abbrev pub TextIsAccepted : Type 0
TextIsAccepted = (netlist_text : List ℕ) (reading : Reading) (netlist : Netlist) (c : Certificate) → ReadsNetlist netlist_text reading netlist
    → IsAcyclic netlist → Accepts netlist c → (outputs : Option (List ℕ)) → AreOutputsOf netlist_text reading outputs
    → AreTerms (told_by reading outputs) c.question.terms → HasSpelling c → IsWithinLimit (spelling c) → IsAcceptedAsWritten netlist_text reading c

-- A certificate that is accepted of the netlist that is read of a text, with a moment for each
-- input, no more flips than inputs, and a tree of at most 10,000,000 lines of which none is a
-- step's, as an exact answer of a search gives it, is accepted as it is written.
abbrev pub AcceptedIsWritten : Type 0
AcceptedIsWritten = (netlist_text : List ℕ) (reading : Reading) (netlist : Netlist) (c : Certificate) (claim : Claim) → ReadsNetlist netlist_text reading netlist
    → IsAcyclic netlist → AreMoments netlist c.question.moments → c.question.admit.flips ≤ inputs_of c.question → Accepts netlist c
    → (outputs : Option (List ℕ)) → AreOutputsOf netlist_text reading outputs → CanBeTold (told_by reading outputs) c → c.claim ≡ Some claim → claim.high ≡ claim.time
    → length c.tree ≤ 10000000 → has_refuted c.tree ≡ false → IsAcceptedAsWritten netlist_text reading c
