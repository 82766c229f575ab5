use Rattle.std.proofs.Common.{◌≡◌, drop, max}
use Rattle.td_event_sim.specs.Latest.{greatest_at}
use Rattle.td_event_sim.proofs.state.greatest.Given as goal

abbrev pub invariant-loop-net : goal.invariant-loop-net
invariant-loop-net l = max l.moment (greatest_at l.latest (drop l.net-index l.nets)) ≡ greatest_at l.latest l.nets
