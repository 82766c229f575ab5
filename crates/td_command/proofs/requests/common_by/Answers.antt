use Rattle.td_command.proofs.requests.common_by.Goals as goal

pub returns-in_err-file : goal.returns-in_err-file
returns-in_err-file c = rw c.from_residual.ensures (λ asked has. c.in_err-file.ensures asked.file has.file)

pub returns-in_err-form : goal.returns-in_err-form
returns-in_err-form c = rw c.from_residual-in_err-form.ensures (λ asked has. c.in_err-form.ensures asked.form has.form)

pub returns-in_err-hints : goal.returns-in_err-hints
returns-in_err-hints c = rw c.from_residual-in_err-hints.ensures (λ asked has. c.in_err-hints.ensures asked.hints has.hints)
