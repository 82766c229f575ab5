use Rattle.td_command.proofs.requests.command_of.Goals as goal

pub returns-in-check : goal.returns-in-check
returns-in-check c = rw c.in-check.is (c.check.ensures c.args.named.now)
