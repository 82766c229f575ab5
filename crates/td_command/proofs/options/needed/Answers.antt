use Rattle.clap.specs.Words.{found_of}
use Rattle.td_command.proofs.Saying.{given}
use Rattle.td_command.proofs.options.needed.Goals as goal

pub returns : goal.returns
returns c = given (found_of c.args.matches.now) c.args.id.now c.get_str.result c.get_str.ensures
