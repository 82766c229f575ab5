use Rattle.clap.specs.Words.{found_of, rows_of}
use Rattle.td_command.proofs.CommandLines.{only_check}
use Rattle.td_command.proofs.requests.check.Goals as goal

pub returns-in_err-certificate : goal.returns-in_err-certificate
returns-in_err-certificate c = λ named. rw c.from_residual.ensures (only_check (rows_of (found_of c.args.matches.now)) named (λ asked has. c.in_err-certificate.ensures asked.certificate has.certificate))
