use Rattle.std.proofs.Common.{◌≡◌, drop, None}
use Rattle.td_spans.specs.Stretching.{stretch_last}
use Rattle.td_spans.proofs.gate_clauses.stretch_last.Given as goal

abbrev pub invariant-loop-literal : goal.invariant-loop-literal
invariant-loop-literal l = stretch_last l.variables l.times l.last l.place (drop l.literal-index l.body) ≡ stretch_last l.variables l.times None l.place l.body
