use Rattle.td_source.specs.Reads.{reading_of}
use Rattle.td_source.proofs.Reading.{looped_fits}
use Rattle.td_source.proofs.source.whole_of.Goals as goal

pub returns-in-Err-clause-fault : goal.returns-in-Err-clause-fault
returns-in-Err-clause-fault c =
    looped_fits c.args.text.now (reading_of c.args.default c.args.named.now) c.in_ok-found.found.netlist _ c.in_ok-found.ensures.means c.in_ok-found.ensures.outputs
    c.in-Err.fault c.looped.result c.looped.ensures c.in-Err.ensures.fault
