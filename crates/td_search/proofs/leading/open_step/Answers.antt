use Rattle.td_search.proofs.leading.open_step.Goals as goal

pub returns-in-None-clause-step : goal.returns-in-None-clause-step
returns-in-None-clause-step c = λ cut less. (c.in-None.ensures.position, (c.args.bound, c.requires.bound, less))
