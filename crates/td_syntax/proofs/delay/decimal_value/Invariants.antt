use Rattle.std.proofs.Common.{drop, ◌≤◌}
use Rattle.std.specs.List.{fold}
use Rattle.td_syntax.specs.Grammar.{with_digit, decimal_value}
use Rattle.td_syntax.proofs.Values.{Alike}
use Rattle.td_syntax.proofs.delay.decimal_value.Given as goal

abbrev pub invariant-loop-digit : goal.invariant-loop-digit
invariant-loop-digit l = (l.value ≤ 1000000001) × Alike (fold with_digit l.value (drop l.digit-index l.digits)) (decimal_value l.digits)
