use Rattle.std.proofs.Common.{◌≡◌, drop}
use Rattle.td_spans.specs.Clauses.{trit_by}
use Rattle.td_spans.proofs.gate_clauses.trit_by.Given as goal

abbrev pub invariant-loop-literal : goal.invariant-loop-literal
invariant-loop-literal l = trit_by l.variables l.times (drop l.literal-index l.body) l.net l.place ≡ trit_by l.variables l.times l.body l.net l.place
