-- The bits of a declared name.
use Rattle.std.specs.Prelude.{ℕ, zero, suc, ◌+◌, ◌-◌, ◌≤◌, List, [], ◌∷◌, map, Option, None, Some, Bool, ◌&&◌, ◌||◌, nat_le, if◌then◌else◌}
use Rattle.td_syntax.specs.Grammar as grammar
use Rattle.td_syntax.specs.Grammar.{decimal_value}
use Rattle.td_netlist.specs.declared.ranges.Range.{Range}
use Rattle.td_nets.specs.Netlist.{Name}

-- the range of a vector, and none for a scalar
abbrev pub range_of : Option grammar.Range → Option Range
range_of None = None
range_of (Some r) = Some (record { left = decimal_value r.left; right = decimal_value r.right })

-- numbers of at most the greatest that a range may be written with
abbrev pub IsLimited : Option Range → Type 0
IsLimited None = Unit {0}
IsLimited (Some r) = (r.left ≤ 1000000000) × (r.right ≤ 1000000000)

-- how many bits a name has: one without a range, else those from number to number, both counted
-- (one of the two differences is 0)
abbrev pub width_of : Option Range → ℕ
width_of None = 1
width_of (Some r) = suc (r.left - r.right + (r.right - r.left))

-- the bit that stands so far from the left
abbrev pub bit_at : Range → ℕ → ℕ
bit_at r place = if nat_le r.left r.right then r.left + place else r.left - place

abbrev pub holds : Range → ℕ → Bool
holds r bit = nat_le r.left bit && nat_le bit r.right || nat_le r.right bit && nat_le bit r.left

-- that many bits from this place on
unfoldable pub bits_from : Range → ℕ → ℕ → List ℕ
bits_from r place zero = []
bits_from r place (suc n) = bit_at r place ∷ bits_from r (place + 1) n

abbrev pub bit_name : List ℕ → ℕ → Name
bit_name text bit = record { text = text; bit = Some bit }

-- the nets of a name, from left to right
abbrev pub nets_of : List ℕ → Option Range → List Name
nets_of text None = record { text = text; bit = None } ∷ []
nets_of text (Some r) = map (bit_name text) (bits_from r 0 (width_of (Some r)))
