-- Laws of searches that were cut short.
use Rattle.std.specs.Prelude.{◌≡◌, ℕ, ◌≤◌, max, List, [], ◌∷◌, map, Contains}
use Rattle.td_domain.specs.declared.cubes.Trit.{Trit}
use Rattle.td_domain.specs.Pairs.{Pair}
use Rattle.td_domain.specs.Cubes.{IsIn}
use Rattle.td_book.specs.declared.lease.Lease.{Lease}
use Rattle.td_book.specs.declared.node.State.{State}
use Rattle.td_book.specs.declared.node.State.TheVariants.{Split, Open, Closed}
use Rattle.td_book.specs.Board.{Leaf}
use Rattle.td_book.specs.Steps.{World, Event, Reply, Splitting, Grafting, Did, HonestRun, starting}
use Rattle.td_search.specs.CutShort.{HadToSplit, AreSettled, IsCutShort, root_place}

-- a state without its worker, allowance and cut, where a held leaf is open
abbrev pub shape : State → State
shape (Split position) = Split position
shape (Closed mark bound cut) = Closed mark bound bound
shape _ = Open

module _ (IsDelay : Pair → ℕ → Type 0) (IsBoundOf : List Trit → ℕ → Type 0) (SplitsAbove : List Trit → ℕ → Type 0) where
  -- where nothing was handled, a search is cut short with the delay of a pair and the greater of it
  -- and the root's bound
  abbrev pub CutShortAtOnce : Type 0
  CutShortAtOnce = (root : List Trit) (pair : Pair) (delay bound : ℕ) → IsIn pair root → IsDelay pair delay → IsBoundOf root bound
      → IsCutShort IsDelay IsBoundOf SplitsAbove root pair delay (max bound delay) 0

  -- no pair of a cube is above a bound of the cube
  abbrev pub AreAbove : Type 0
  AreAbove = (cube : List Trit) (bound : ℕ) (pair : Pair) (delay : ℕ) → IsBoundOf cube bound → IsIn pair cube → IsDelay pair delay → delay ≤ bound

  -- Where bounds are above the pairs of their cubes, no pair of the root is above the upper figure
  -- of a search that was cut short, and the lower is the delay of its pair.
  abbrev pub CutShortIsBetween : Type 0
  CutShortIsBetween = AreAbove → (root : List Trit) (pair : Pair) (low high count : ℕ) → IsCutShort IsDelay IsBoundOf SplitsAbove root pair low high count
      → IsDelay pair low × (low ≤ high) × ((other : Pair) (delay : ℕ) → IsIn other root → IsDelay other delay → delay ≤ high)

  -- an honest run leads to this tree with this best, and splits only cubes that had to be split, in
  -- its grafts too
  pub record IsLedTo (root : List Trit) (low : ℕ) (states : List State) : Type 0 where
    pub workers : ℕ
    pub budget : ℕ
    pub events : List (Event × Reply)
    pub end : World
    pub run : HonestRun IsDelay (starting root workers budget) events end
    pub best : end.best ≡ low
    pub tree : map (λ x. shape x.state) end.board.nodes ≡ map shape states
    pub had_to_split : (lease : Lease) (position : ℕ) → Contains events (Splitting lease position, Did)
        → HadToSplit IsDelay IsBoundOf SplitsAbove low lease.cube
    pub had_to_split_below : (lease : Lease) (done : List Leaf) (leaf : Leaf) (position : ℕ) → Contains events (Grafting lease done, Did)
        → Contains done leaf → leaf.node.state ≡ Split position → HadToSplit IsDelay IsBoundOf SplitsAbove low leaf.cube

  -- An honest run leads to each settled tree whose best is a pair's delay.
  abbrev pub TreesAreLedTo : Type 0
  TreesAreLedTo = (root : List Trit) (pair : Pair) (low : ℕ) (states : List State) → IsIn pair root → IsDelay pair low
      → AreSettled IsDelay IsBoundOf SplitsAbove low (root_place root ∷ []) states → IsLedTo root low states
