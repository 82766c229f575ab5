-- What a shared search hands over once its workers have ended.
use Rattle.std.specs.Prelude.{◌<◌, ◌^◌}
use Rattle.std.specs.List.{All}
use Rattle.td_search.specs.declared.finishing.SharedWork.{SharedWork}
use Rattle.td_search.specs.Best.{IsKept}
use Rattle.td_search.specs.Findings.{IsTrueEvidence}
use Rattle.td_search.specs.Problems.{Problem, has_bound}

-- the evidence, the bound of the pins and the best pair are true; nothing is said of the tree
pub record IsShared (asked : Problem) (work : SharedWork) : Type 0 where
  pub evidence : All (IsTrueEvidence asked) work.evidence.items
  pub root : has_bound asked asked.admit.pins work.root
  pub small : work.root < 10 ^ 15
  pub best : IsKept asked work.best
