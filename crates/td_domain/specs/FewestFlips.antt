-- Internal: the fewest flips of the pairs that lie in two cubes at once, input by input.
use Rattle.std.specs.Prelude.{ℕ, ◌+◌, Bool, List, [], ◌∷◌, Option, Some, None, option_and_then, if◌then◌else◌}
use Rattle.td_domain.specs.declared.cubes.Trit.{Trit}
use Rattle.td_domain.specs.declared.cubes.Trit.TheVariants.{Zero, One, Free}

-- the trit that allows what both allow, where they allow a bit in common
abbrev pub common : Trit → Trit → Option Trit
common Free that = Some that
common Zero Zero = Some Zero
common Zero Free = Some Zero
common One One = Some One
common One Free = Some One
common this that = None

-- the fewest flips of an input with bits that these trits allow: bits that differ are a flip, and
-- none where the input is held
abbrev pub input_flips : Trit → Trit → Bool → Option ℕ
input_flips Zero One held = if held then None else Some 1
input_flips One Zero held = if held then None else Some 1
input_flips first second held = Some 0

-- the fewest flips of an input that has these trits in the two cubes
abbrev pub common_flips : Bool → Trit → Trit → Trit → Trit → Option ℕ
common_flips held u v p q =
    option_and_then (λ first. option_and_then (λ second. input_flips first second held) (common v q)) (common u p)

-- the sum of two, where both are there
abbrev pub sum_of : Option ℕ → Option ℕ → Option ℕ
sum_of (Some a) (Some b) = Some (a + b)
sum_of a b = None

-- the fewest flips of a pair in both cubes that keeps the held inputs, none where there is no such
-- pair
abbrev pub fewest_flips : List Bool → List Trit → List Trit → Option ℕ
fewest_flips [] [] [] = Some 0
fewest_flips (held ∷ others) (u ∷ v ∷ pins) (p ∷ q ∷ cube) = sum_of (common_flips held u v p q) (fewest_flips others pins cube)
fewest_flips held pins cube = None
