use Rattle.std.proofs.Common.{◌≡◌, take}
use Rattle.td_domain.proofs.cubes.Cube.has_trits.Given as goal

abbrev pub invariant-loop-position : goal.invariant-loop-position
invariant-loop-position l = take l.position l.self ≡ take l.position l.trits
