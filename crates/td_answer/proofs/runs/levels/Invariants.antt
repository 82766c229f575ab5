use Rattle.std.proofs.Common.{◌≡◌, map, take}
use Rattle.td_gates.specs.Table.{level_from}
use Rattle.td_answer.proofs.runs.levels.Given as goal

abbrev pub invariant-loop-bit : goal.invariant-loop-bit
invariant-loop-bit l = l.levels.items ≡ map level_from (take l.bit-index l.bits)
