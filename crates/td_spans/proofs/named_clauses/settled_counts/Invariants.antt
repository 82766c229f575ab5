use Rattle.std.proofs.Common.{◌≡◌, take, map}
use Rattle.td_gates.specs.Counts.{counts_of}
use Rattle.td_spans.specs.Clauses.{settled_trit}
use Rattle.td_spans.proofs.named_clauses.settled_counts.Given as goal

abbrev pub invariant-loop-input : goal.invariant-loop-input
invariant-loop-input l = l.counts ≡ counts_of (map (settled_trit l.last l.variables l.body) (take l.input-index l.inputs))
