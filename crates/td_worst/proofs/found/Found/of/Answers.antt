use Rattle.td_worst.proofs.found.Found.of.Goals as goal

pub returns-clause-support : goal.returns-clause-support
returns-clause-support c = λ given admit is. record { steps = tt; tree = is }

pub returns-clause-supported : goal.returns-clause-supported
returns-clause-supported c = λ high is. record { steps = tt; tree = is }
