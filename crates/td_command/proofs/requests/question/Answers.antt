use Rattle.td_command.proofs.requests.question.Goals as goal

pub returns-in_err-flips : goal.returns-in_err-flips
returns-in_err-flips c = rw c.from_residual.ensures (λ asked has. c.in_err-flips.ensures _ has.flips)
