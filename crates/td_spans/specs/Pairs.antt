-- Pairs: clauses whose literals no admitted pair of a cube makes false at once.
use Rattle.std.specs.Prelude.{ℕ, zero, suc, ◌+◌, ◌-◌, ◌*◌, nat_le, nat_lt, Bool, true, false, not, ◌&&◌, ◌||◌, List, [], ◌∷◌, length, set, slice_get, Option, Some, None, option_and_then, if◌then◌else◌}
use Rattle.td_domain.specs.declared.cubes.Trit.{Trit}
use Rattle.td_domain.specs.declared.cubes.Trit.TheVariants.{Zero, One, Free}
use Rattle.td_domain.specs.Admits.{Admitted}
use Rattle.td_propagation.specs.declared.literal.Literal.{Literal}
use Rattle.td_spans.specs.declared.variable.Variable.{Variable}
use Rattle.td_spans.specs.declared.variable.Variable.TheVariants.{First, Last, Span, Flips}
use Rattle.td_spans.specs.Clauses.{level_is}
use Rattle.td_spans.specs.Changing.{sum_of, fixed_at, is_so}

abbrev pub trit_of : Bool → Trit
trit_of true = One
trit_of false = Zero

-- the position of a bit of an input, in the first or the second vector of a pair; constants have none
abbrev pub position_of : ℕ → ℕ → Bool → Option (ℕ × Bool)
position_of net side bit = if nat_lt net 2 then None else Some (2 * (net - 2) + side, bit)

-- the position and the bit that a literal says when it is denied
abbrev pub denied_bit : Bool → Option Variable → Option (ℕ × Bool)
denied_bit positive None = None
denied_bit positive (Some (First net)) = position_of net 0 (not positive)
denied_bit positive (Some (Last net)) = position_of net 1 (not positive)
denied_bit positive (Some (Span saying)) = None
denied_bit positive (Some (Flips inputs count)) = None

-- the cube with a bit at a position that has this trit; none where the other bit stands there
abbrev pub with_trit : List Trit → ℕ → Bool → Option Trit → Option (List Trit)
with_trit cube position bit None = Some cube
with_trit cube position bit (Some Free) = Some (set cube position (trit_of bit))
with_trit cube position bit (Some Zero) = if bit then None else Some cube
with_trit cube position bit (Some One) = if bit then Some cube else None

abbrev pub with_bit : List Trit → Option (ℕ × Bool) → Option (List Trit)
with_bit cube None = Some cube
with_bit cube (Some it) = with_trit cube it.0 it.1 (slice_get cube it.0)

-- The cube with the bits that these literals say when they are denied; none where one contradicts
-- what stands there.
abbrev pub narrowed : List Variable → List Trit → List Literal → Option (List Trit)
narrowed variables cube [] = Some cube
narrowed variables cube (literal ∷ clause) =
    option_and_then (λ narrow. narrowed variables narrow clause) (with_bit cube (denied_bit literal.positive (slice_get variables literal.variable)))

-- whether one of the first inputs is held and surely differs
abbrev pub held_differs : List Bool → List Trit → ℕ → Bool
held_differs held cube zero = false
held_differs held cube (suc input) = held_differs held cube input || (is_so (slice_get held input) && nat_lt 0 (fixed_at cube input))

-- of how many first inputs a variable says how many differ, and how many
abbrev pub flips_of : Option Variable → Option (ℕ × ℕ)
flips_of (Some (Flips inputs count)) = Some (inputs, count)
flips_of variable = None

abbrev pub flips_or : Bool → Option (ℕ × ℕ) → ℕ × ℕ → ℕ × ℕ
flips_or true (Some some) rest = some
flips_or same flips rest = rest

-- what the first literal with this sign counts, else the rest
abbrev pub first_flips : Bool → List Variable → List Literal → ℕ × ℕ → ℕ × ℕ
first_flips sign variables [] rest = rest
first_flips sign variables (literal ∷ clause) rest =
    flips_or (level_is literal.positive sign) (flips_of (slice_get variables literal.variable)) (first_flips sign variables clause rest)

-- whether at least so many of more first inputs differ where so many of the first inputs do, by those
-- between that surely differ
abbrev pub reaches : List Trit → ℕ × ℕ → ℕ × ℕ → Bool
reaches cube low high =
    nat_le low.0 high.0 && nat_le high.1 (low.1 + (sum_of (fixed_at cube) high.0 - sum_of (fixed_at cube) low.0))

-- whether no admitted pair lies in a narrowed cube, where so many inputs differ, and not so many
abbrev pub is_empty : List Bool → ℕ × ℕ → ℕ × ℕ → Option (List Trit) → Bool
is_empty held low high None = true
is_empty held low high (Some cube) = held_differs held cube (length held) || reaches cube low high

-- Whether no admitted pair of the cube makes all literals of a clause false.
abbrev pub is_pairs_clause : ℕ → Admitted → List Trit → List Variable → List Literal → Bool
is_pairs_clause inputs admit cube variables clause = is_empty admit.held (first_flips false variables clause (0, 0))
    (first_flips true variables clause (inputs, admit.flips + 1)) (narrowed variables cube clause)
