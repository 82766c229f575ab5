use Rattle.td_propagation.proofs.Trails.{listed_from}
use Rattle.td_propagation.proofs.denied.Denied.new.Goals as goal

pub invariant_of-result-clause-listed : goal.invariant_of-result-clause-listed
invariant_of-result-clause-listed c = listed_from c.args.variables _ _ c.in_ok-marks.ensures c.new.ensures.items
