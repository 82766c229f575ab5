-- Internal: which reasons give the faults of parts.
use Rattle.std.specs.Prelude.{◌≡◌, ◌≢◌, ◌⊎◌, ℕ, Bool, List, [], get_or, Option, Some, None}
use Rattle.std.specs.Borrow.{Bor}
use Rattle.td_nets.specs.Netlist.{Netlist}
use Rattle.td_reading.specs.declared.reading.Reading.{Reading}
use Rattle.td_certificate.specs.declared.certificate.Certificate.{Certificate}
use Rattle.td_certificate.specs.declared.fault.CertFault.{CertFault}
use Rattle.td_certificate.specs.declared.fault.CertFaultKind.TheVariants as certificate_kind
use Rattle.td_checker.specs.declared.verdict.CheckFault.{CheckFault}
use Rattle.td_checker.specs.declared.verdict.CheckFault.TheVariants as check
use Rattle.td_join.specs.declared.fault.JoinFault.{JoinFault}
use Rattle.td_join.specs.declared.fault.JoinFault.TheVariants as join
use Rattle.td_join.specs.Faults.{renamed}
use Rattle.td_answer.specs.Joins.{TellsPart}
use Rattle.td_answer.specs.declared.refusal.Refusal.{Refusal}
use Rattle.td_answer.specs.declared.refusal.Refusal.TheVariants as refusal

-- the reason gives this fault of the text of the file of this name, or says that memory ran out
abbrev pub IsOfPart : Bor (List ℕ) → CertFault → Refusal → Type 0
IsOfPart name fault reason =
    (reason ≡ refusal.OutOfMemory) ⊎ ((fault.kind ≢ certificate_kind.OutOfMemory) × (reason ≡ refusal.BadPart name fault))

-- the reason that tells why the certificate in the file of this name wasn't judged
abbrev pub unjudged : Bor (List ℕ) → CheckFault → Refusal
unjudged name check.OutOfMemory = refusal.OutOfMemory
unjudged name (check.Netlist fault) = refusal.Check (check.Netlist fault)
unjudged name check.NoOutput = refusal.Check check.NoOutput
unjudged name (check.Loop net) = refusal.Check (check.Loop net)
unjudged name (check.Certificate fault) = refusal.BadPart name fault

-- the text is there, and tells this part
abbrev pub TellsPartOf : List ℕ → Reading → Netlist → Bool → Option (List ℕ) → Certificate → Type 0
TellsPartOf text reading netlist check None part = ⊥
TellsPartOf text reading netlist check (Some spelled) part = TellsPart text reading netlist check spelled part

-- the reason gives the fault, with the names at its places
pub record TellsUnjoined (names : List (List ℕ)) (fault : JoinFault ℕ) (reason : Refusal) : Type 0 where
  pub told : JoinFault (Bor (List ℕ))
  pub reported : fault ≢ join.OutOfMemory
  pub named : renamed (λ name. name.now) told ≡ renamed (λ place. get_or names place []) fault
  pub is : reason ≡ refusal.NotJoined told

-- the reason gives this fault, or says that memory ran out
abbrev pub IsOfUnjoined : List (List ℕ) → JoinFault ℕ → Refusal → Type 0
IsOfUnjoined names fault reason = (reason ≡ refusal.OutOfMemory) ⊎ TellsUnjoined names fault reason
