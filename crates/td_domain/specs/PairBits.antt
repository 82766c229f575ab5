-- Internal: bits of an admitted pair.
use Rattle.std.specs.Prelude.{◌≡◌, ℕ, ◌+◌, ◌*◌, Bool, true, length, slice_get, Some}
use Rattle.td_domain.specs.declared.cubes.Trit.{Trit}
use Rattle.td_domain.specs.Cubes.{Allows}
use Rattle.td_domain.specs.Admits.{Admitted, IsAdmitted, flips_of}
use Rattle.td_domain.specs.declared.pair_bits.Bits.{Bits}

-- the pins allow these bits of an input, which are equal if it is held
pub record IsFit (admit : Admitted) (input : ℕ) (before after : Bool) : Type 0 where
  pub first : (trit : Trit) → slice_get admit.pins (2 * input) ≡ Some trit → Allows trit before
  pub second : (trit : Trit) → slice_get admit.pins (2 * input + 1) ≡ Some trit → Allows trit after
  pub held : slice_get admit.held input ≡ Some true → before ≡ after

-- they are the bits of an admitted pair, with as many flips as are counted
pub record AreAdmitted (admit : Admitted) (bits : Bits) : Type 0 where
  pub admitted : IsAdmitted admit (record { first = bits.first.items; second = bits.second.items })
  pub flips : bits.flips ≡ flips_of bits.first.items bits.second.items
  pub firsts : length bits.first.items ≡ length admit.held
  pub seconds : length bits.second.items ≡ length admit.held
