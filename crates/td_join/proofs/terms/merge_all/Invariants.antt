use Rattle.std.proofs.Common.{take}
use Rattle.std.specs.Prelude.{All}
use Rattle.td_join.specs.Joining.{AreMerged}
use Rattle.td_join.proofs.terms.merge_all.Given as goal

abbrev pub invariant-loop-place : goal.invariant-loop-place
invariant-loop-place l = All (λ c. AreMerged l.first.question.terms c.question.terms) (take l.place l.certificates)
