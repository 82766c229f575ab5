use Rattle.std.proofs.Common.{◌≡◌, ◌++◌, take, drop, length}
use Rattle.td_join.specs.Joining.{both}
use Rattle.td_join.proofs.hulls.widen.Given as goal

abbrev pub invariant-loop-position : goal.invariant-loop-position
invariant-loop-position l = record {
  lengths : length l.cube ≡ length l.other;
  widened : take l.position l.cube ++ both (drop l.position l.cube) (drop l.position l.other) ≡ both l.fn.cube l.other;
}
