-- Internal: the places of outputs, as they are found, and numbers of outputs.
use Rattle.std.specs.Prelude.{ℕ, ◌<◌, ◌↔◌, ◌&&◌, Bool, true, List, [], ◌∷◌, get_or, map, nat_lt}
use Rattle.std.specs.List.{Contains}
use Rattle.td_nets.specs.Netlist.{Netlist}
use Rattle.td_circuit.specs.Numbering.{Numbered}
use Rattle.td_source.specs.Kept.{Rise}
use Rattle.td_source.specs.Reads.{IsFirstNamed, HasNoneNamed, IsNamed}

-- each word names an output, and these are the places of those that are named
pub record ArePlacesOf (netlist : Netlist) (words : List (List ℕ)) (places : List ℕ) : Type 0 where
  pub each : (word : List ℕ) → Contains words word → (place : ℕ) × Contains places place × IsFirstNamed netlist word place
  pub only : (place : ℕ) → Contains places place → IsNamed netlist words place

-- a word names no output
abbrev pub NamesNoneOf : Netlist → List (List ℕ) → Type 0
NamesNoneOf netlist words = (word : List ℕ) × Contains words word × HasNoneNamed netlist word

-- these are the numbers less than the count that are found, rising
pub record AreSorted (count : ℕ) (found places : List ℕ) : Type 0 where
  pub rising : Rise places
  pub are : (place : ℕ) → Contains places place ↔ (Contains found place × (place < count))

-- numbers rise, and all are less than the count
abbrev pub are_rising : ℕ → List ℕ → Bool
are_rising count [] = true
are_rising count (this ∷ []) = nat_lt this count
are_rising count (this ∷ that ∷ more) = nat_lt this that && are_rising count (that ∷ more)

-- the nets of the outputs with these numbers
abbrev pub nets_at : Numbered → List ℕ → List ℕ
nets_at circuit numbers = map (λ number. get_or circuit.outputs number 0) numbers
