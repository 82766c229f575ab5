use Rattle.std.proofs.Common.{◌≡◌, ◌++◌, drop}
use Rattle.td_spans.specs.Pieces.{said_of}
use Rattle.td_spans.proofs.long_clauses.said_of.Given as goal

abbrev pub invariant-loop-literal : goal.invariant-loop-literal
invariant-loop-literal l = l.said.items ++ said_of l.variables l.times (drop l.literal-index l.body) ≡ said_of l.variables l.times l.body
