use Rattle.td_vcd.proofs.OneReading.{one_thing}
use Rattle.td_vcd.proofs.laws.says_one_thing.Goals as goal

pub returns : goal.returns
returns c = λ text a b first second. one_thing text a b first second
