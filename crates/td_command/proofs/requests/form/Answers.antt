use Rattle.td_command.proofs.requests.form.Goals as goal

pub returns-in_err-quiet : goal.returns-in_err-quiet
returns-in_err-quiet c = rw c.from_residual.ensures (λ asked has. c.in_err-quiet.ensures has.0 has.2)

pub returns-in_err-json : goal.returns-in_err-json
returns-in_err-json c = rw c.from_residual-in_err-json.ensures (λ asked has. c.in_err-json.ensures has.1 has.3)
