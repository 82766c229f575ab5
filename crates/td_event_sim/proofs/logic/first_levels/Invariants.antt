use Rattle.std.proofs.Common.{◌≡◌, ℕ, ◌+◌, ◌<◌, true, false, get_or}
use Rattle.td_event_sim.proofs.logic.first_levels.Given as goal

abbrev pub invariant-loop-i : goal.invariant-loop-i
invariant-loop-i l = record {
  low : get_or l.levels 0 false ≡ false;
  high : get_or l.levels 1 false ≡ true;
  inputs : (input : ℕ) → input < l.i → get_or l.levels (input + 2) false ≡ get_or l.vector input false;
}
