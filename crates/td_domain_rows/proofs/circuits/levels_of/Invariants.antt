use Rattle.std.proofs.Common.{◌≡◌, length}
use Rattle.td_domain_rows.proofs.circuits.levels_of.Given as goal

abbrev pub invariant-loop-bit : goal.invariant-loop-bit
invariant-loop-bit l = length l.levels.items ≡ l.bit-index
