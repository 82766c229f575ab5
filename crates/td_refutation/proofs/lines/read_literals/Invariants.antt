use Rattle.std.proofs.Common.{◌≡◌, map, take}
use Rattle.td_refutation.specs.Lines.{literal_at}
use Rattle.td_refutation.proofs.lines.read_literals.Given as goal

abbrev pub invariant-loop-number : goal.invariant-loop-number
invariant-loop-number l = l.literals.items ≡ map literal_at (take l.number-index l.numbers)
