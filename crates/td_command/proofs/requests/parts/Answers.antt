use Rattle.td_command.proofs.CommandLines.{only_parts}
use Rattle.td_command.proofs.requests.parts.Goals as goal

pub returns-in_err-question : goal.returns-in_err-question
returns-in_err-question c = rw c.from_residual.ensures (only_parts (λ asked has. c.in_err-question.ensures _ has.question))

pub returns-in_err-strategy : goal.returns-in_err-strategy
returns-in_err-strategy c = rw c.from_residual-in_err-strategy.ensures (only_parts (λ asked has. c.in_err-strategy.ensures _ has.strategy))

pub returns-in_err-parts : goal.returns-in_err-parts
returns-in_err-parts c = rw c.from_residual-in_err-parts.ensures (only_parts (λ asked has. c.in_err-parts.ensures asked.count.parts (has.count, asked.count.some, asked.count.few)))

pub returns-in_err-required : goal.returns-in_err-required
returns-in_err-required c = rw c.from_residual-in_err-required.ensures (only_parts (λ asked has. c.in_err-required.ensures _ has.required))
