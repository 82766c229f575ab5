-- What the checker says of two texts.
use Rattle.std.specs.Prelude.{◌≡◌, ◌≢◌, ℕ, true, List, [], Option, Some, None, Result, Ok, Err}
use Rattle.td_gates.specs.Delays.{Delays}
use Rattle.td_reading.specs.declared.reading.Reading.{Reading}
use Rattle.td_reading.specs.declared.told.Told.{Told}
use Rattle.td_nets.specs.Netlist.{Netlist}
use Rattle.td_nets.specs.Views.{name_of}
use Rattle.td_netlist.specs.Means.{Means}
use Rattle.td_circuit.specs.Loops.{Loop, LiesOnLoop}
use Rattle.td_source.specs.declared.fault.SourceFault.{SourceFault}
use Rattle.td_source.specs.declared.fault.SourceFault.TheVariants as source
use Rattle.td_source.specs.Kept.{HasOutputs}
use Rattle.td_source.specs.Reads.{reading_of, AreOutputsIn, ReadsNetlist, HasCircuit}
use Rattle.td_source.specs.Faults.{IsNetlistFault, NamesNone}
use Rattle.td_certificate.specs.declared.certificate.Certificate.{Certificate}
use Rattle.td_certificate.specs.declared.fault.CertFaultKind.TheVariants as certificate_kind
use Rattle.td_certificate.specs.Questions.{Terms}
use Rattle.td_certificate.specs.Accepts.{setting_of, IsClaim}
use Rattle.td_certificate.specs.Spelling.{Spells}
use Rattle.td_certificate.specs.Faults.{IsWithinLimit, IsFault}
use Rattle.td_checker.specs.declared.verdict.Verdict.{Verdict}
use Rattle.td_checker.specs.declared.verdict.Checked.{Checked}
use Rattle.td_checker.specs.declared.verdict.CheckFault.{CheckFault}
use Rattle.td_checker.specs.declared.verdict.CheckFault.TheVariants as fault
use Rattle.td_checker.specs.Verdicts.{Said, outputs_for, IsVerdictOfWhole}

-- the terms of a text that tells how a netlist is read
abbrev pub told_terms : Delays → Option (List ℕ) → Terms
told_terms default outputs = record { default = default; outputs = outputs; keep = [] }

abbrev pub told_by : Reading → Option (List ℕ) → Terms
told_by reading outputs = told_terms reading.default outputs

-- what the checker is told, of a reading that asks about the outputs with these numbers
abbrev pub said_by : Told → Delays → Option (List ℕ) → Said
said_by told default outputs = record { told = told; default = default; outputs = outputs }

-- all of it is compared
abbrev pub told_all : Told
told_all = record { rise = true; fall = true; outputs = true }

-- the delays of gates that state none: those that the text tells, else those of the reading
abbrev pub default_for : Delays → Option Terms → Delays
default_for default None = default
default_for default (Some terms) = terms.default

-- The certificate has this verdict: the netlist's text, with the delays that the certificate tells,
-- means a netlist without a loop, and the verdict is that on the certificate.
pub record HasVerdict (netlist_text : List ℕ) (reading : Reading) (told : Told) (c : Certificate) (verdict : Verdict) : Type 0 where
  pub whole : Netlist
  pub means : Means netlist_text (default_for reading.default c.question.terms) whole
  pub acyclic : ¬ Loop whole
  pub outputs : Option (List ℕ)
  pub asked : AreOutputsIn whole reading.outputs outputs
  pub is : IsVerdictOfWhole (said_by told reading.default outputs) whole c verdict

-- The texts have this verdict: the one spells a certificate within its limit, and of the other the
-- certificate has the verdict.
pub record HaveVerdict (netlist_text : List ℕ) (reading : Reading) (told : Told) (text : List ℕ) (verdict : Verdict) : Type 0 where
  pub certificate : Certificate
  pub spells : Spells certificate text
  pub within : IsWithinLimit text
  pub has : HasVerdict netlist_text reading told certificate verdict

-- the reading with these delays
abbrev pub with_default : Reading → Delays → Reading
with_default reading default = reading_of default reading.outputs

-- what a fault says of the netlist's text alone, read so
abbrev pub IsWholeFault : List ℕ → Reading → CheckFault → Type 0
IsWholeFault netlist_text reading fault.OutOfMemory = Unit {0}
IsWholeFault netlist_text reading (fault.Netlist reported) = IsNetlistFault netlist_text reading reported
IsWholeFault netlist_text reading fault.NoOutput = NamesNone netlist_text reading
IsWholeFault netlist_text reading (fault.Loop name) =
    (netlist : Netlist) × ReadsNetlist netlist_text reading netlist × LiesOnLoop netlist (name_of name)
IsWholeFault netlist_text reading (fault.Certificate reported) = ⊥

-- with these delays the netlist's text is read where this is the certificate's text: with those that
-- it tells, and with those of the reading where it spells no certificate
pub record IsDefaultFor (reading : Reading) (text : List ℕ) (default : Delays) : Type 0 where
  pub spelled : (c : Certificate) → Spells c text → IsWithinLimit text → default ≡ default_for reading.default c.question.terms
  pub unread : ((c : Certificate) → Spells c text → ¬ IsWithinLimit text) → default ≡ reading.default

abbrev pub IsNetlistFaultFor : List ℕ → Reading → List ℕ → CheckFault → Type 0
IsNetlistFaultFor netlist_text reading text reported =
    (default : Delays) × IsDefaultFor reading text default × IsWholeFault netlist_text (with_default reading default) reported

-- What a fault says of the texts, looked for in this order: the netlist's text means none, and has
-- the fault; no output has a name that is asked about; the netlist has a loop; the certificate's text
-- has the fault. That memory ran out says nothing of them.
abbrev pub IsCheckFault : List ℕ → Reading → List ℕ → CheckFault → Type 0
IsCheckFault netlist_text reading text fault.OutOfMemory = Unit {0}
IsCheckFault netlist_text reading text (fault.Certificate reported) =
    (netlist : Netlist) × HasCircuit netlist_text reading netlist
    × (reported.kind ≢ certificate_kind.OutOfMemory) × IsFault reported.kind reported.line text
IsCheckFault netlist_text reading text other = IsNetlistFaultFor netlist_text reading text other

-- the fault of the checker that says why a text gives no circuit
abbrev pub fault_of : SourceFault → CheckFault
fault_of source.OutOfMemory = fault.OutOfMemory
fault_of (source.Netlist reported) = fault.Netlist reported
fault_of source.NoOutput = fault.NoOutput
fault_of (source.Loop name) = fault.Loop name

-- memory aside, the result is this verdict
abbrev pub IsReportedAs : Verdict → Result Checked CheckFault → Type 0
IsReportedAs verdict (Ok reported) = reported.verdict ≡ verdict
IsReportedAs verdict (Err reported) = reported ≡ fault.OutOfMemory

-- two texts have at most one verdict
abbrev pub TextsHaveOneVerdict : Type 0
TextsHaveOneVerdict = (netlist_text : List ℕ) (reading : Reading) (told : Told) (text : List ℕ) (this that : Verdict)
    → HaveVerdict netlist_text reading told text this → HaveVerdict netlist_text reading told text that → this ≡ that

-- The certificate asks about this netlist: the netlist's text means it, with the delays that the
-- certificate tells, and with the outputs that it tells alone. What it doesn't tell is as in the
-- reading.
pub record AsksAbout (netlist_text : List ℕ) (reading : Reading) (c : Certificate) (netlist : Netlist) : Type 0 where
  pub whole : Netlist
  pub means : Means netlist_text (default_for reading.default c.question.terms) whole
  pub outputs : Option (List ℕ)
  pub named : AreOutputsIn whole reading.outputs outputs
  pub has : HasOutputs whole (outputs_for outputs c.question.terms) netlist

-- What the certificate claims is true of the netlist that it asks about: its pair is admitted and has
-- its time, and no admitted pair changes an output after its other moment.
abbrev pub TellsTruthOf : List ℕ → Reading → Certificate → Type 0
TellsTruthOf netlist_text reading c = (netlist : Netlist) → AsksAbout netlist_text reading c netlist → IsClaim (setting_of netlist c) c

-- the same of the certificate that the text spells
abbrev pub TellsTruth : List ℕ → Reading → List ℕ → Type 0
TellsTruth netlist_text reading text = (c : Certificate) → Spells c text → TellsTruthOf netlist_text reading c

-- what a fault says of the certificate's text alone
abbrev pub IsCertificateFault : List ℕ → CheckFault → Type 0
IsCertificateFault text fault.OutOfMemory = Unit {0}
IsCertificateFault text (fault.Netlist reported) = ⊥
IsCertificateFault text fault.NoOutput = ⊥
IsCertificateFault text (fault.Loop name) = ⊥
IsCertificateFault text (fault.Certificate reported) = (reported.kind ≢ certificate_kind.OutOfMemory) × IsFault reported.kind reported.line text
