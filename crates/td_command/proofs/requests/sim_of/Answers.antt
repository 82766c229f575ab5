use Rattle.td_command.proofs.CommandLines.{only_sim}
use Rattle.td_command.proofs.requests.sim_of.Goals as goal

pub returns-in_err-from : goal.returns-in_err-from
returns-in_err-from c = rw c.from_residual.ensures (only_sim (λ asked has. c.in_err-from.ensures asked.from has.from))

pub returns-in_err-to : goal.returns-in_err-to
returns-in_err-to c = rw c.from_residual-in_err-to.ensures (only_sim (λ asked has. c.in_err-to.ensures asked.to has.to))

pub returns-in_err-outputs : goal.returns-in_err-outputs
returns-in_err-outputs c = rw c.from_residual-in_err-outputs.ensures (only_sim (λ asked has. c.in_err-outputs.ensures _ has.outputs))
