use Rattle.td_command.proofs.CommandLines.{only_worst}
use Rattle.td_command.proofs.requests.worst.Goals as goal

pub returns-in_err-question : goal.returns-in_err-question
returns-in_err-question c = rw c.from_residual.ensures (only_worst (λ asked has. c.in_err-question.ensures _ has.question))

pub returns-in_err-strategy : goal.returns-in_err-strategy
returns-in_err-strategy c = rw c.from_residual-in_err-strategy.ensures (only_worst (λ asked has. c.in_err-strategy.ensures _ has.strategy))

pub returns-in_err-effort : goal.returns-in_err-effort
returns-in_err-effort c = rw c.from_residual-in_err-effort.ensures (only_worst (λ asked has. c.in_err-effort.ensures _ has.effort))

pub returns-in_err-shown : goal.returns-in_err-shown
returns-in_err-shown c = rw c.from_residual-in_err-shown.ensures (only_worst (λ asked has. c.in_err-shown.ensures _ has.shown))

pub returns-in_err-table : goal.returns-in_err-table
returns-in_err-table c = rw c.from_residual-in_err-table.ensures (only_worst (λ asked has. c.in_err-table.ensures _ has.tables))

pub returns-in_err-required : goal.returns-in_err-required
returns-in_err-required c = rw c.from_residual-in_err-required.ensures (only_worst (λ asked has. c.in_err-required.ensures _ has.required))

pub returns-in_err-between : goal.returns-in_err-between
returns-in_err-between c = rw c.from_residual-in_err-between.ensures (only_worst (λ asked has. c.in_err-between.ensures _ has.between))
