use Rattle.std.proofs.Common.{◌≡◌, drop}
use Rattle.td_spans.specs.Named.{has_variables}
use Rattle.td_spans.proofs.named_clauses.has_variables.Given as goal

abbrev pub invariant-loop-literal : goal.invariant-loop-literal
invariant-loop-literal l = has_variables l.variables (drop l.literal-index l.clause) ≡ has_variables l.variables l.clause
