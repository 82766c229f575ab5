use Rattle.std.proofs.Common.{◌≡◌, length}
use Rattle.td_domain_rows.proofs.circuits.bits_of.Given as goal

abbrev pub invariant-loop : goal.invariant-loop
invariant-loop l = length l.bits.items ≡ l.counter
