use Rattle.td_cli.proofs.DumpNames.{dumps_say}
use Rattle.td_cli.proofs.laws.dumps_of_texts_say.Goals as goal

pub returns : goal.returns
returns c = dumps_say c.names_of_texts.ensures c.says_the_waves.ensures
