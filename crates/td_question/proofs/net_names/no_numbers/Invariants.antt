use Rattle.std.proofs.Common.{◌≡◌, replicate, None}
use Rattle.td_question.proofs.net_names.no_numbers.Given as goal

abbrev pub invariant-loop-name : goal.invariant-loop-name
invariant-loop-name l = l.numbers.items ≡ replicate l._name None
