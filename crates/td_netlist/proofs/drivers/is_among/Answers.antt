use Rattle.std.proofs.Common.{◌∙◌}
use Rattle.td_netlist.proofs.Sets.{any_flipped}
use Rattle.td_netlist.proofs.drivers.is_among.Goals as goal

pub returns : goal.returns
returns c = c.contains.ensures.value ∙ any_flipped c.args.name c.args.names.now
