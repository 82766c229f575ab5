use Rattle.td_cli.proofs.Ending.{told}
use Rattle.td_cli.proofs.shell.request_of.Goals as goal

pub returns-in-Err-clause-ends : goal.returns-in-Err-clause-ends
returns-in-Err-clause-ends g c = told c.args.words.now c.in-Err.error _ _ _ c.in-Err.ensures.fault c.tell_usage.ensures
