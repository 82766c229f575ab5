use Rattle.td_worst.proofs.support.Support.by_steps.Goals as goal

pub returns-clause-among : goal.returns-clause-among
returns-clause-among c = λ given asking is. record { steps = is; tree = tt }
