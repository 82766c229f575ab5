-- What can be written of outcomes.
use Rattle.std.proofs.Common.{◌≡◌, ℕ, List, Bool, true, false, subst, sym}
use Rattle.std.specs.Prelude.{Option, Some, None, IfSome}
use Rattle.td_gates.specs.Wave.{Wave}
use Rattle.td_nets.specs.Netlist.{Net}
use Rattle.td_reading.specs.declared.reading.Reading.{Reading}
use Rattle.td_circuit.specs.Settings.{Setting}
use Rattle.td_certificate.specs.declared.certificate.Certificate.{Certificate}
use Rattle.td_certificate.specs.Spelling.{HasSpelling}
use Rattle.td_lines.specs.declared.line.Line.{Line}
use Rattle.td_request.specs.declared.request.Search.{Search}
use Rattle.td_answer.specs.declared.outcome.Outcome.{Outcome}
use Rattle.td_answer.specs.declared.outcome.Dump.{Dump}
use Rattle.td_answer.specs.declared.outcome.Dump.TheVariants.{Whole, Chosen}
use Rattle.td_answer.specs.Dumps.{IsDumpWhere}
use Rattle.td_answer.specs.Certified.{IsCertified}
use Rattle.td_answer.specs.Writing.{HasDump, CanBeWritten}

-- no certificate
none_spelled : (certificate : Option Certificate) → certificate ≡ None → IfSome certificate HasSpelling
none_spelled certificate none = subst (λ (c : Option Certificate). IfSome c HasSpelling) (sym none) tt

-- the certificate of a search
certificate_spelled : (text : List ℕ) (reading : Reading) (search : Search) (report : List Line) (certificate : Option Certificate)
    → IsCertified text reading search report certificate → IfSome certificate HasSpelling
certificate_spelled text reading search report None is = tt
certificate_spelled text reading search report (Some certificate) is = is.written.0

-- the dump that is asked for
dump_written : (is_asked : Bool) (setting : Setting) (IsRun : (Net → Wave) → Type 0) (dump : Option Dump) → IsDumpWhere is_asked setting IsRun dump
    → IfSome dump HasDump
dump_written false setting IsRun dump none = subst (λ (d : Option Dump). IfSome d HasDump) (sym none) tt
dump_written true setting IsRun None is = tt
dump_written true setting IsRun (Some (Whole dump)) is = is.has
dump_written true setting IsRun (Some (Chosen dump)) is = absurd is

pub searched_written : (text : List ℕ) (reading : Reading) (search : Search) (is_asked : Bool) (setting : Setting) (IsRun : (Net → Wave) → Type 0) (outcome : Outcome)
    → IsCertified text reading search outcome.report outcome.certificate → IsDumpWhere is_asked setting IsRun outcome.dump
    → CanBeWritten outcome
searched_written text reading search is_asked setting IsRun outcome certified dumped = record {
  certificate = certificate_spelled text reading search outcome.report outcome.certificate certified;
  dump = dump_written is_asked setting IsRun outcome.dump dumped;
}

-- what is spelled, and the dump that is asked for
pub spelled_and_dump : (is_asked : Bool) (setting : Setting) (IsRun : (Net → Wave) → Type 0) (outcome : Outcome)
    → IfSome outcome.certificate HasSpelling → IsDumpWhere is_asked setting IsRun outcome.dump → CanBeWritten outcome
spelled_and_dump is_asked setting IsRun outcome spelled dumped = record {
  certificate = spelled;
  dump = dump_written is_asked setting IsRun outcome.dump dumped;
}

-- a dump alone
pub dumped_written : (is_asked : Bool) (setting : Setting) (IsRun : (Net → Wave) → Type 0) (outcome : Outcome)
    → outcome.certificate ≡ None → IsDumpWhere is_asked setting IsRun outcome.dump → CanBeWritten outcome
dumped_written is_asked setting IsRun outcome none dumped = record {
  certificate = none_spelled outcome.certificate none;
  dump = dump_written is_asked setting IsRun outcome.dump dumped;
}

-- a certificate with a text, and the dump that is asked for
pub certificate_and_dump : (is_asked : Bool) (setting : Setting) (IsRun : (Net → Wave) → Type 0) (certificate : Certificate) (outcome : Outcome)
    → outcome.certificate ≡ Some certificate → HasSpelling certificate → IsDumpWhere is_asked setting IsRun outcome.dump → CanBeWritten outcome
certificate_and_dump is_asked setting IsRun certificate outcome has spelled dumped = record {
  certificate = subst (λ (c : Option Certificate). IfSome c HasSpelling) (sym has) spelled;
  dump = dump_written is_asked setting IsRun outcome.dump dumped;
}
