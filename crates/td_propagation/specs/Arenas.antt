-- Internal: clauses whose literals stand one after another.
use Rattle.std.specs.Prelude.{◌≡◌, ℕ, zero, suc, ◌≤◌, List, [], ◌∷◌, slice_range}
use Rattle.td_propagation.specs.declared.literal.Literal.{Literal}

-- the clauses of literals: the first stands from a place on, and each ends before its own place
abbrev pub parted : List Literal → ℕ → List ℕ → List (List Literal)
parted literals start [] = []
parted literals start (end ∷ ends) = slice_range literals start end ∷ parted literals end ends

-- the ends rise from a place on, and the last is that of all literals
abbrev pub AreEnds : ℕ → List ℕ → ℕ → Type 0
AreEnds start [] total = start ≡ total
AreEnds start (end ∷ ends) total = (start ≤ end) × AreEnds end ends total

-- where the clause with a number begins
abbrev pub start_at : ℕ → List ℕ → ℕ → ℕ
start_at start ends zero = start
start_at start [] (suc number) = start
start_at start (end ∷ ends) (suc number) = start_at end ends number
