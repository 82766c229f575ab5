use Rattle.std.proofs.Common.{◌≡◌, length, reverse, vec_len}
use Rattle.td_checker.specs.Paths.{cubes_ahead, AreInside}
use Rattle.td_checker.proofs.walking.Walk.leave.Given as goal

abbrev pub invariant-loop-position : goal.invariant-loop-position
invariant-loop-position l = record {
  next : cubes_ahead l.self.cube (reverse l.self.path.items) ≡ cubes_ahead l.initial.self.cube (reverse l.initial.self.path.items);
  inside : AreInside (length l.self.cube) (reverse l.self.path.items);
  length : length l.self.cube ≡ length l.initial.self.cube;
}

abbrev pub decreases-loop-position : goal.decreases-loop-position
decreases-loop-position l = vec_len l.self.path
