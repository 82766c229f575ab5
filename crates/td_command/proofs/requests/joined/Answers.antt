use Rattle.td_command.proofs.CommandLines.{only_join}
use Rattle.td_command.proofs.requests.joined.Goals as goal

pub returns-in_err-question : goal.returns-in_err-question
returns-in_err-question c = rw c.from_residual.ensures (only_join (λ asked has. c.in_err-question.ensures _ has.question))

pub returns-in_err-required : goal.returns-in_err-required
returns-in_err-required c = rw c.from_residual-in_err-required.ensures (only_join (λ asked has. c.in_err-required.ensures _ has.required))

pub returns-in_err-check : goal.returns-in_err-check
returns-in_err-check c = rw c.from_residual-in_err-check.ensures (only_join (λ asked has. c.in_err-check.ensures _ has.check))
