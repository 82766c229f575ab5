use Rattle.std.proofs.Common.{◌≡◌, take, map}
use Rattle.td_gates.specs.Counts.{counts_of}
use Rattle.td_spans.specs.Clauses.{trit_by}
use Rattle.td_spans.proofs.gate_clauses.counts_at.Given as goal

abbrev pub invariant-loop-input : goal.invariant-loop-input
invariant-loop-input l = l.counts ≡ counts_of (map (λ net. trit_by l.variables l.times l.body net l.place) (take l.input-index l.inputs))
