use Rattle.td_cli.proofs.DumpNames.{names_fine}
use Rattle.td_cli.proofs.laws.names_of_texts.Goals as goal

pub returns : goal.returns
returns c = names_fine
