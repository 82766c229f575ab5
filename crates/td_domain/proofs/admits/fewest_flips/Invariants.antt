use Rattle.std.proofs.Common.{◌≡◌, ◌≤◌, Some}
use Rattle.td_domain.specs.FewestFlips.{sum_of, fewest_flips}
use Rattle.td_domain.proofs.Flips.{left_after}
use Rattle.td_domain.proofs.admits.fewest_flips.Given as goal

abbrev pub invariant-loop-input : goal.invariant-loop-input
invariant-loop-input l = record {
  few : l.fewest ≤ l.input;
  whole : fewest_flips l.held l.pins l.cube ≡ sum_of (Some l.fewest) (left_after l.input l.held l.pins l.cube);
}
