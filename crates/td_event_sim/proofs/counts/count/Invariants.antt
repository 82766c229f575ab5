use Rattle.std.proofs.Common.{◌≡◌, take}
use Rattle.std.specs.Prelude.{count_by}
use Rattle.td_event_sim.specs.Bits.{bit_at}
use Rattle.td_event_sim.proofs.counts.count.Given as goal

abbrev pub invariant-loop-input : goal.invariant-loop-input
invariant-loop-input l = l.ones ≡ count_by (bit_at l.levels) (take l.input-index l.inputs)
