use Rattle.td_command.proofs.requests.shown.Goals as goal

pub returns-in_err-path : goal.returns-in_err-path
returns-in_err-path c = rw c.from_residual.ensures (λ asked has. c.in_err-path.ensures _ has.path)

pub returns-in_err-outputs : goal.returns-in_err-outputs
returns-in_err-outputs c = rw c.from_residual-in_err-outputs.ensures (λ asked has. c.in_err-outputs.ensures _ has.outputs)

pub returns-in_err-progress : goal.returns-in_err-progress
returns-in_err-progress c = rw c.from_residual-in_err-progress.ensures (λ asked has. c.in_err-progress.ensures _ has.progress)

pub returns-in_err-verbose : goal.returns-in_err-verbose
returns-in_err-verbose c = rw c.from_residual-in_err-verbose.ensures (λ asked has. c.in_err-verbose.ensures has.work.0 has.work.2)

pub returns-in_err-json : goal.returns-in_err-json
returns-in_err-json c = rw c.from_residual-in_err-json.ensures (λ asked has. c.in_err-json.ensures has.work.1 has.work.3)
