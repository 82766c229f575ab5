use Rattle.std.proofs.Common.{take}
use Rattle.td_pool.proofs.Pins.{ArePinned}
use Rattle.td_pool.proofs.shared.is_within.Given as goal

abbrev pub invariant-loop-position : goal.invariant-loop-position
invariant-loop-position l = ArePinned (take l.position l.pins) (take l.position l.cube)
