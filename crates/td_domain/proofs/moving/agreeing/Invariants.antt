use Rattle.std.proofs.Common.{◌≡◌, take}
use Rattle.td_domain.proofs.moving.agreeing.Given as goal

abbrev pub invariant-loop-position : goal.invariant-loop-position
invariant-loop-position l = take l.from l.one ≡ take l.from l.other → take l.position l.one ≡ take l.position l.other
