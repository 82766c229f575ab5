use Rattle.std.proofs.Common.{◌≡◌, ◌+◌, ◌≤◌, drop}
use Rattle.td_domain.specs.Admits.{flips_of}
use Rattle.td_domain.proofs.pair_bits.flips_of.Given as goal

abbrev pub invariant-loop-input : goal.invariant-loop-input
invariant-loop-input l = record {
  few : l.flips ≤ l.input;
  whole : l.flips + flips_of (drop l.input l.first) (drop l.input l.second) ≡ flips_of l.first l.second;
}
