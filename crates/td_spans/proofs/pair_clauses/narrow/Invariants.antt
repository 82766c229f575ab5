use Rattle.std.proofs.Common.{◌≡◌, drop}
use Rattle.td_spans.specs.Pairs.{narrowed}
use Rattle.td_spans.proofs.pair_clauses.narrow.Given as goal

abbrev pub invariant-loop-literal : goal.invariant-loop-literal
invariant-loop-literal l = narrowed l.variables l.cube (drop l.literal-index l.clause) ≡ narrowed l.variables l.initial.cube l.clause
