use Rattle.std.proofs.Common.{◌≡◌, drop}
use Rattle.td_spans.specs.Pieces.{nearest}
use Rattle.td_answer.proofs.FirstChanges.{soonest_at}
use Rattle.td_answer.proofs.earliest.soonest.Given as goal

-- the first change of the nets so far, and that of those that are left
abbrev pub invariant-loop-net : goal.invariant-loop-net
invariant-loop-net l = nearest l.first (soonest_at l.signals (drop l.net-index l.nets)) ≡ soonest_at l.signals l.nets
