use Rattle.td_command.proofs.requests.request.Goals as goal

pub returns-in_default : goal.returns-in_default
returns-in_default c = λ asked has. (rw c.in_default.is at c.in_ok-common.ensures)
    (record { file = asked.file; reading = asked.reading; form = asked.form; hints = asked.hints })
    (record { file = has.file; reading = has.reading; form = has.form; hints = has.hints })
