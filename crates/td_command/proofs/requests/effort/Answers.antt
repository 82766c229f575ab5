use Rattle.td_command.proofs.requests.effort.Goals as goal

pub returns-in_err-workers : goal.returns-in_err-workers
returns-in_err-workers c = rw c.from_residual.ensures (λ asked has. c.in_err-workers.ensures asked.workers (has.workers, asked.some, asked.few))

pub returns-in_err-budget : goal.returns-in_err-budget
returns-in_err-budget c = rw c.from_residual-in_err-budget.ensures (λ asked has. c.in_err-budget.ensures asked.budget (has.budget, asked.modest))

pub returns-in_err-seconds : goal.returns-in_err-seconds
returns-in_err-seconds c = rw c.from_residual-in_err-seconds.ensures (λ asked has. c.in_err-seconds.ensures asked.seconds has.seconds)

pub returns-in_err-memory : goal.returns-in_err-memory
returns-in_err-memory c = rw c.from_residual-in_err-memory.ensures (λ asked has. c.in_err-memory.ensures asked.memory has.memory)
