-- Changing: which inputs change in no admitted pair of a cube.
use Rattle.std.specs.Prelude.{ℕ, zero, suc, ◌+◌, ◌-◌, ◌*◌, nat_le, Bool, false, ◌||◌, List, slice_get, Option, Some, None}
use Rattle.td_domain.specs.declared.cubes.Trit.{Trit}
use Rattle.td_domain.specs.declared.cubes.Trit.TheVariants.{Zero, One}
use Rattle.td_domain.specs.Admits.{Admitted}

-- the sum of these numbers
abbrev pub sum_of : (ℕ → ℕ) → ℕ → ℕ
sum_of f zero = 0
sum_of f (suc n) = sum_of f n + f n

-- 1 where two trits are known and differ, else 0
abbrev pub fixed_flip : Option Trit → Option Trit → ℕ
fixed_flip (Some Zero) (Some One) = 1
fixed_flip (Some One) (Some Zero) = 1
fixed_flip first second = 0

-- 1 where an input surely differs, else 0
abbrev pub fixed_at : List Trit → ℕ → ℕ
fixed_at cube input = fixed_flip (slice_get cube (2 * input)) (slice_get cube (2 * input + 1))

-- whether it is so
abbrev pub is_so : Option Bool → Bool
is_so None = false
is_so (Some it) = it

-- Whether one of so many inputs is still: it is held, or at least as many others surely differ as
-- inputs may.
abbrev pub is_still : Admitted → List Trit → ℕ → ℕ → Bool
is_still admit cube inputs input =
    is_so (slice_get admit.held input) || nat_le admit.flips (sum_of (fixed_at cube) inputs - fixed_at cube input)
