-- What a worker keeps and hands back.
use Rattle.std.specs.Prelude.{◌≡◌, ◌≤◌, length}
use Rattle.std.specs.List.{AllByRecursion}
use Rattle.td_incumbent.specs.Held.{Shown, Held}
use Rattle.td_search.specs.Findings.{IsTrueEvidence}
use Rattle.td_search.specs.Best.{Found as Best, IsBest}
use Rattle.td_search.specs.Problems.{Problem}
use Rattle.td_pool.specs.declared.found.Found.{Found}
use Rattle.td_pool.specs.declared.kept.Kept.{Kept}

-- The best pair's time is the seat's greatest offer, and the seat has seen no less.
pub record IsTrueKept (asked : Problem) (best : Best) (seat : Held) : Type 0 where
  pub is : IsBest asked best
  pub offer : seat.offer ≡ best.time
  pub seen : seat.offer ≤ seat.seen
  pub first : length best.pair.first ≡ length asked.admit.held
  pub second : length best.pair.second ≡ length asked.admit.held

-- the seat is one of the incumbent, and no lesser delay was seen than the best pair's
pub record IsKeeping (asked : Problem) (keeper : Kept) : Type 0 where
  pub table : keeper.seat.table ≡ keeper.incumbent.now.table
  pub kept : IsTrueKept asked keeper.best keeper.seat
  pub low : keeper.best.time ≤ keeper.seen

-- each piece of evidence is true of the circuit, and so is what is kept
pub record IsTrueFound (asked : Problem) (found : Found) : Type 0 where
  pub evidence : AllByRecursion (IsTrueEvidence asked) found.evidence.items
  pub kept : IsTrueKept asked found.best found.seat

-- a seat at this incumbent that has offered nothing
abbrev pub IsFresh : Shown → Held → Type 0
IsFresh incumbent seat = (seat.table ≡ incumbent.table) × (seat.offer ≡ 0)

-- what a worker begins with
abbrev pub IsStarting : Problem → Shown → Found → Type 0
IsStarting asked incumbent found = (found.seat.table ≡ incumbent.table) × IsTrueFound asked found
