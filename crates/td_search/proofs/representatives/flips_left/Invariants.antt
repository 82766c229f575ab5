use Rattle.std.proofs.Common.{◌≡◌, ◌*◌, ◌-◌, drop}
use Rattle.td_search.specs.Representatives.{forced_flips}
use Rattle.td_search.proofs.representatives.flips_left.Given as goal

abbrev pub invariant-loop-i : goal.invariant-loop-i
invariant-loop-i l = l.left - forced_flips (drop (2 * l.i) l.cube) ≡ l.admit.flips - forced_flips l.cube
