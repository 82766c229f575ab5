use Rattle.std.proofs.Common.{◌≢◌, inl, inr, refl}
use Rattle.clap.specs.declared.error.kind.ErrorKind.{ErrorKind}
use Rattle.clap.specs.declared.error.kind.ErrorKind.TheVariants as kind
use Rattle.td_command.specs.Faults.{IsShown}
use Rattle.td_cli.proofs.usage.tell_usage.Goals as goal

no_text : (reported : ErrorKind) → reported ≢ kind.DisplayHelp → reported ≢ kind.DisplayVersion → ¬ IsShown reported
no_text reported no_help no_version (inl help) = no_help help
no_text reported no_help no_version (inr version) = no_version version

pub returns-then-use_stderr : goal.returns-then-use_stderr
returns-then-use_stderr g c =
    let both = c.use_stderr.ensures.0 c.if-use_stderr.true in
    inr (record { silent = refl; why = inr (refl, c.in-Ok.ensures, no_text _ both.0 both.1) })
