-- What is said of a check that may be stopped.
use Rattle.std.specs.Prelude.{◌≡◌, Option, Some, None, Result, Ok, Err}
use Rattle.td_checker.specs.declared.verdict.Verdict.{Verdict}
use Rattle.td_checker.specs.declared.verdict.Checked.{Checked}
use Rattle.td_checker.specs.declared.verdict.CheckFault.{CheckFault}
use Rattle.td_checker.specs.declared.verdict.CheckFault.TheVariants as fault

-- memory and the stop aside, the result is this verdict
abbrev pub IsReportedInTime : Verdict → Result (Option Checked) CheckFault → Type 0
IsReportedInTime verdict (Ok (Some reported)) = reported.verdict ≡ verdict
IsReportedInTime verdict (Ok None) = Unit {0}
IsReportedInTime verdict (Err reported) = reported ≡ fault.OutOfMemory
