use Rattle.std.proofs.Common.{◌≤◌, ◌+◌, length}
use Rattle.td_syntax.proofs.Lists.{left}
use Rattle.td_syntax.proofs.Counting.{Counted}
use Rattle.td_syntax.proofs.parser.Parser.attributes.Given as goal

abbrev pub invariant-attributes : goal.invariant-attributes
invariant-attributes l = record {
  counted : Counted l.count l.self l.fn.self;
  within : l.count + length l.self.stream.tokens ≤ 67108865;
}

abbrev pub decreases-attributes : goal.decreases-attributes
decreases-attributes l = left l.self
