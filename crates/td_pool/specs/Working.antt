-- Internal: what workers begin with, have done and promise.
use Rattle.std.specs.Prelude.{◌≡◌, ℕ, ◌<◌, ◌≤◌, List, length}
use Rattle.std.specs.List.{AllByRecursion}
use Rattle.td_incumbent.specs.Held.{Shown}
use Rattle.td_search.specs.declared.findings.Evidence.{Evidence}
use Rattle.td_search.specs.declared.problem.Problem.{Problem as Declared}
use Rattle.td_search.specs.Findings.{IsTrueEvidence}
use Rattle.td_search.specs.Problems.{Problem}
use Rattle.td_pool.specs.declared.found.Found.{Found}
use Rattle.td_pool.specs.declared.kept.Kept.{Kept}
use Rattle.td_pool.specs.declared.reports.Truthful.{Truthful}
use Rattle.td_pool.specs.declared.state.Work.{Work}
use Rattle.td_pool.specs.Truth.{IsKeeping, IsStarting}
use Rattle.td_pool.specs.Watched.{IsFound}

-- what a worker keeps, its evidence, and its parts of the ledger
pub record IsWorking (asked : Problem) (kept : Kept) (pieces : List Evidence) (parts : ℕ) : Type 0 where
  pub keeps : IsKeeping asked kept
  pub evidence : AllByRecursion (IsTrueEvidence asked) pieces
  pub part : 0 < parts

-- `workers` workers, one at least, begin with this, and a part of the ledger for each, which counts
-- nothing yet
pub record IsCrew (asked : Problem) (incumbent : Shown) (workers : ℕ) (waiting : List Found) (shares counted : ℕ) : Type 0 where
  pub some : 0 < workers
  pub parts : shares ≡ workers
  pub amount : counted ≡ 0
  pub count : length waiting ≡ workers
  pub found : AllByRecursion (IsStarting asked incumbent) waiting

-- what was split and closed below a leaf, as the evidence shows it, and a delay that was found
pub record IsTrueWork (asked : Problem) (work : Work) : Type 0 where
  pub cube : work.subtree.cube ≡ work.lease.cube
  pub few : length work.subtree.states ≤ work.lease.allowance
  pub evidence : IsTrueEvidence asked work.evidence.now
  pub best : IsFound asked work.best

-- the promise is about this problem
abbrev pub IsTruthful : Declared → Truthful → Type 0
IsTruthful given promise = (promise.circuit.value ≡ given.circuit.now) × (promise.admit.value ≡ given.admit.now) × (promise.strategy ≡ given.strategy)
