use Rattle.std.proofs.Common.{◌≡◌, drop, max}
use Rattle.td_info.specs.Depths.{greatest, depths_at}
use Rattle.td_info.proofs.depths.deepest_of.Given as goal

abbrev pub invariant-loop-net : goal.invariant-loop-net
invariant-loop-net l = max l.deepest (greatest (depths_at l.depths (drop l.net-index l.nets))) ≡ greatest (depths_at l.depths l.nets)
