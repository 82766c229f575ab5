use Rattle.std.proofs.Common.{◌≡◌, drop}
use Rattle.td_spans.specs.Conditions.{asks_equal}
use Rattle.td_spans.proofs.condition.asks_equal.Given as goal

abbrev pub invariant-loop-condition : goal.invariant-loop-condition
invariant-loop-condition l = asks_equal (drop l.condition-index l.keep) l.net ≡ asks_equal l.keep l.net
