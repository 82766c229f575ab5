use Rattle.td_path.specs.Walks.{IsWalking}
use Rattle.td_path.proofs.chains.links_back.Given as goal

abbrev pub invariant-loop-net : goal.invariant-loop-net
invariant-loop-net l = IsWalking l.circuit l.run l.last l.last_moment l.net l.moment l.links.items

abbrev pub decreases-loop-net : goal.decreases-loop-net
decreases-loop-net l = l.net
