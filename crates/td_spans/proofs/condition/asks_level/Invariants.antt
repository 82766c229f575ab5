use Rattle.std.proofs.Common.{◌≡◌, drop}
use Rattle.td_spans.specs.Conditions.{asks_level}
use Rattle.td_spans.proofs.condition.asks_level.Given as goal

abbrev pub invariant-loop-condition : goal.invariant-loop-condition
invariant-loop-condition l = asks_level (drop l.condition-index l.keep) l.net l.last l.level ≡ asks_level l.keep l.net l.last l.level
