use Rattle.std.proofs.Common.{take}
use Rattle.std.specs.List.{flat_map}
use Rattle.td_lines.specs.Said.{term_tokens}
use Rattle.td_lines.specs.Values.{Adds}
use Rattle.td_lines.proofs.asked.terms_ended.Given as goal

abbrev pub invariant-loop-one : goal.invariant-loop-one
invariant-loop-one l = Adds l.initial.writer l.writer (flat_map term_tokens (take l.one-index l.terms))
