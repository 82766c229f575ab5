use Rattle.td_netlist.proofs.Readings.{one_netlist}
use Rattle.td_netlist.proofs.laws.means_one.Goals as goal

pub returns : goal.returns
returns c = one_netlist
