use Rattle.std.proofs.Common.{◌≡◌, None, replicate}
use Rattle.td_inputs.proofs.placing.nothing.Given as goal

abbrev pub invariant-loop-input : goal.invariant-loop-input
invariant-loop-input l = l.cells.items ≡ replicate l._input None
