use Rattle.std.proofs.Common.{take}
use Rattle.std.specs.List.{flat_map}
use Rattle.td_lines.specs.Values.{Adds, line_tokens}
use Rattle.td_lines.proofs.members.object.Given as goal

abbrev pub invariant-loop-line : goal.invariant-loop-line
invariant-loop-line l = Adds l.initial.writer l.writer (flat_map line_tokens (take l.line-index l.report))
