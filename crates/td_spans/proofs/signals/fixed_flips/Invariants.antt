use Rattle.std.proofs.Common.{◌≡◌, ◌≤◌}
use Rattle.td_spans.specs.Changing.{sum_of, fixed_at}
use Rattle.td_spans.proofs.signals.fixed_flips.Given as goal

abbrev pub invariant-loop-input : goal.invariant-loop-input
invariant-loop-input l = record {
  few : l.fixed ≤ l.input;
  is : l.fixed ≡ sum_of (fixed_at l.cube) l.input;
}
