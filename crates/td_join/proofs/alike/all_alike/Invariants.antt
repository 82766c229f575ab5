use Rattle.std.proofs.Common.{take}
use Rattle.std.specs.Prelude.{All}
use Rattle.td_certificate.specs.Trees.{IsTree}
use Rattle.td_join.specs.Joining.{IsAlike}
use Rattle.td_join.specs.Steps.{HasFit}
use Rattle.td_join.proofs.alike.all_alike.Given as goal

abbrev pub invariant-loop-place : goal.invariant-loop-place
invariant-loop-place l = record {
  alike : All (IsAlike l.first) (take l.place l.certificates);
  fit : All HasFit (take l.place l.certificates);
  trees : All (λ c. IsTree c.tree) (take l.place l.certificates);
}
