use Rattle.std.proofs.Common.{◌≡◌, drop}
use Rattle.td_spans.specs.Lowering.{are_at_rest}
use Rattle.td_spans.proofs.net_clauses.are_at_rest.Given as goal

abbrev pub invariant-loop-literal : goal.invariant-loop-literal
invariant-loop-literal l = are_at_rest l.variables l.net l.level l.place (drop l.literal-index l.clause) ≡ are_at_rest l.variables l.net l.level l.place l.clause
