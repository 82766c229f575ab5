use Rattle.std.proofs.Common.{take}
use Rattle.td_lines.specs.Values.{Adds, index_value, rows_tokens}
use Rattle.td_lines.proofs.claims.indexes.Given as goal

abbrev pub invariant-loop-number : goal.invariant-loop-number
invariant-loop-number l = Adds l.initial.writer l.writer (rows_tokens index_value (take l.number-index l.numbers))
