use Rattle.std.proofs.Common.{◌≡◌, ◌++◌}
use Rattle.td_vcd.specs.Text.{code}
use Rattle.td_vcd.proofs.batch.Batch.code.Given as goal

abbrev pub invariant-loop-rest : goal.invariant-loop-rest
invariant-loop-rest l = l.self ++ code l.rest ≡ l.initial.self ++ code l.variable

abbrev pub decreases-loop-rest : goal.decreases-loop-rest
decreases-loop-rest l = l.rest
