use Rattle.std.proofs.Common.{◌≡◌, drop}
use Rattle.td_spans.specs.Clauses.{settled_trit}
use Rattle.td_spans.proofs.named_clauses.settled_trit.Given as goal

abbrev pub invariant-loop-literal : goal.invariant-loop-literal
invariant-loop-literal l = settled_trit l.last l.variables (drop l.literal-index l.body) l.net ≡ settled_trit l.last l.variables l.body l.net
