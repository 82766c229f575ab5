use Rattle.std.proofs.Common.{take}
use Rattle.td_lines.specs.Values.{Adds, rows_tokens}
use Rattle.td_lines.proofs.members.values.Given as goal

abbrev pub invariant-loop-item : goal.invariant-loop-item
invariant-loop-item g l = Adds l.initial.writer l.writer (rows_tokens g.V.Valued.value (take l.item-index l.items))
