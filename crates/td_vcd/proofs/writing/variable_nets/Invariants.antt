use Rattle.std.proofs.Common.{◌≡◌, suc, length}
use Rattle.td_gates.proofs.Places.{Each}
use Rattle.td_vcd.proofs.writing.variable_nets.Given as goal

abbrev pub invariant-loop-place : goal.invariant-loop-place
invariant-loop-place l = record {
  count : length l.nets.items ≡ l.place;
  each : Each (λ i number. number ≡ suc (suc i)) l.nets.items;
}
