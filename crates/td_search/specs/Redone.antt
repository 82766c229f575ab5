-- What a search does again of what was found before.
use Rattle.std.specs.Prelude.{◌≡◌, ◌≢◌, ℕ, ◌+◌, ◌<◌, ◌≤◌, ◌^◌, true, List, length, take, slice_get, count_by, Option, Some}
use Rattle.std.specs.List.{AllByRecursion}
use Rattle.td_domain.specs.declared.cubes.Trit.{Trit}
use Rattle.td_book.specs.declared.node.Node.{Node}
use Rattle.td_book.specs.declared.node.State.{State}
use Rattle.td_book.specs.Board.{Board, opening, is_handled}
use Rattle.td_book.specs.Partial.{PartialTree}
use Rattle.td_search.specs.declared.answers.Answer.{Answer}
use Rattle.td_search.specs.declared.answers.Answer.TheVariants as answer
use Rattle.td_search.specs.declared.answers.Cause.{Cause}
use Rattle.td_search.specs.declared.answers.Cause.TheVariants as cause
use Rattle.td_search.specs.declared.findings.Evidence.{Evidence}
use Rattle.td_search.specs.declared.findings.Finding.{Finding}
use Rattle.td_search.specs.declared.findings.Trail.{Trail}
use Rattle.td_search.specs.declared.finishing.SharedWork.{SharedWork}
use Rattle.td_search.specs.Findings.{IsUsable}
use Rattle.td_search.specs.Problems.{Problem}

-- at least as many nodes are split or closed
abbrev pub IsLater : Board → Board → Type 0
IsLater before after = length before.order ≤ length after.order

-- the first n of these findings are usable under this best time
abbrev pub AreUsable : ℕ → ℕ → List Finding → Type 0
AreUsable best n findings = (n ≤ length findings) × AllByRecursion (IsUsable best) (take n findings)

-- As many nodes more are split or closed as there are findings, from the first on, that are usable
-- under this best time, and no more than the allowance.
abbrev pub AreRedone : ℕ → ℕ → List Finding → Board → Board → Type 0
AreRedone best allowance findings before after =
    (n : ℕ) → AreUsable best n findings → n ≤ allowance → length before.order + n ≤ length after.order

-- of all pieces with its number this one, at this place, is the last
pub record IsLast (pieces : List Evidence) (place : ℕ) (piece : Evidence) : Type 0 where
  pub there : slice_get pieces place ≡ Some piece
  pub last : (other : ℕ) (later : Evidence) → place < other → slice_get pieces other ≡ Some later → later.number ≢ piece.number
  pub small : place < 2 ^ 32

-- each node below this number has the place of the last piece with its number
abbrev pub HasPlaces : List Evidence → ℕ → List (Option ℕ) → Type 0
HasPlaces pieces nodes places =
    (place : ℕ) (piece : Evidence) → IsLast pieces place piece → piece.number < nodes → slice_get places piece.number ≡ Some (Some place)

-- the piece of the node of this number
abbrev pub IsPieceOf : Trail → ℕ → Evidence → Type 0
IsPieceOf trail number piece =
    (place : ℕ) × (slice_get trail.places.items number ≡ Some (Some place)) × (slice_get trail.evidence.items place ≡ Some piece)

-- Of a search that has only opened its root, what the trail has of the root and is usable is done
-- again, up to 64 nodes and the budget.
abbrev pub RedoesRoot : Trail → ℕ → ℕ → State → Board → Board → Type 0
RedoesRoot trail best number state before after =
    (piece : Evidence) (budget n : ℕ) → is_handled state ≡ true → IsPieceOf trail number piece → before ≡ opening piece.cube 1 budget
    → AreUsable best n piece.findings.items → n ≤ 64 → n ≤ budget → n ≤ length after.order

-- The tree of a shared search is one of the pins and within the budget, and its root was split or
-- closed. Of the last piece of evidence of the root the first n findings are usable under the best
-- time, as many as a lease allows at most.
pub record ShowsRoot (pins : List Trit) (budget best : ℕ) (tree : PartialTree) (pieces : List Evidence) (n : ℕ) : Type 0 where
  pub cube : tree.cube ≡ pins
  pub few : count_by (λ x. is_handled x.state) tree.nodes ≤ budget
  pub first : Node
  pub is : slice_get tree.nodes 0 ≡ Some first
  pub done : is_handled first.state ≡ true
  pub low : first.number < length tree.nodes
  pub place : ℕ
  pub piece : Evidence
  pub last : IsLast pieces place piece
  pub number : piece.number ≡ first.number
  pub of : piece.cube ≡ pins
  pub usable : AreUsable best n piece.findings.items
  pub allowed : n ≤ 64
  pub within : n ≤ budget

-- as many nodes are split or closed, unless the answer is exact or memory ran out
abbrev pub HasHandled : ℕ → Answer → Type 0
HasHandled n (answer.Exact time pair tree) = Unit {0}
HasHandled n (answer.Between low high pair nodes why) = why ≢ cause.Memory → n ≤ nodes

-- Where the search ends for its budget or its time, the nodes that were found of the root and are
-- usable are among those that it has handled.
abbrev pub IsRedone : Problem → ℕ → SharedWork → Answer → Type 0
IsRedone asked budget work answer = (n : ℕ) → ShowsRoot asked.admit.pins budget work.best.time work.partial work.evidence.items n → HasHandled n answer

-- memory in place of time
abbrev pub by_memory : Cause → Cause
by_memory cause.Time = cause.Memory
by_memory cause.Budget = cause.Budget
by_memory cause.Memory = cause.Memory

abbrev pub without_time : Answer → Answer
without_time (answer.Exact time pair tree) = answer.Exact time pair tree
without_time (answer.Between low high pair nodes why) = answer.Between low high pair nodes (by_memory why)
