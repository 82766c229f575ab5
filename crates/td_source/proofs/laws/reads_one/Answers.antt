use Rattle.td_source.proofs.Naming.{reads_one}
use Rattle.td_source.proofs.laws.reads_one.Goals as goal

pub returns : goal.returns
returns c = reads_one
