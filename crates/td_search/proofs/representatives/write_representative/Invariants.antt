use Rattle.std.proofs.Common.{◌≡◌, ◌*◌, ◌++◌, drop, length, take}
use Rattle.td_search.specs.Representatives.{first_bit, second_bit, bits_by, flips_left}
use Rattle.td_search.proofs.representatives.write_representative.Given as goal

abbrev pub invariant-loop-i : goal.invariant-loop-i
invariant-loop-i l = record {
  first : take l.i l.first ++ bits_by first_bit l.left (drop l.i l.admit.held) (drop (2 * l.i) l.cube)
      ≡ bits_by first_bit (flips_left l.admit l.cube) l.admit.held l.cube;
  second : take l.i l.second ++ bits_by second_bit l.left (drop l.i l.admit.held) (drop (2 * l.i) l.cube)
      ≡ bits_by second_bit (flips_left l.admit l.cube) l.admit.held l.cube;
  long : length l.first ≡ length l.admit.held;
  wide : length l.second ≡ length l.admit.held;
}
