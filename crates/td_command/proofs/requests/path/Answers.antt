use Rattle.td_command.proofs.CommandLines.{only_path}
use Rattle.td_command.proofs.requests.path.Goals as goal

pub returns-in_err-from : goal.returns-in_err-from
returns-in_err-from c = rw c.from_residual.ensures (only_path (λ asked has. c.in_err-from.ensures asked.from has.from))

pub returns-in_err-to : goal.returns-in_err-to
returns-in_err-to c = rw c.from_residual-in_err-to.ensures (only_path (λ asked has. c.in_err-to.ensures asked.to has.to))
