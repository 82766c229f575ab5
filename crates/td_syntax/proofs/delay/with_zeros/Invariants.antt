use Rattle.std.proofs.Common.{◌≤◌, ◌-◌, []}
use Rattle.td_syntax.specs.Grammar.{steps_behind}
use Rattle.td_syntax.proofs.Values.{Alike}
use Rattle.td_syntax.proofs.delay.with_zeros.Given as goal

abbrev pub invariant-loop : goal.invariant-loop
invariant-loop l = (l.longer ≤ 1000000001) × Alike (steps_behind l.longer (l.zeros - l.counter) []) (steps_behind l.value l.zeros [])
