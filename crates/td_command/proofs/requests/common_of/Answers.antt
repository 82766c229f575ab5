use Rattle.td_command.proofs.requests.common_of.Goals as goal

pub returns-in-None : goal.returns-in-None
returns-in-None c = λ asked has. (rw c.in-None.is at c.in_ok-reading.ensures) asked.reading has.reading
