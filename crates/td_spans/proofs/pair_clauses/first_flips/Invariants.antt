use Rattle.std.proofs.Common.{◌≡◌, ℕ, drop}
use Rattle.td_spans.specs.Pairs.{first_flips}
use Rattle.td_spans.proofs.pair_clauses.first_flips.Given as goal

abbrev pub invariant-loop-literal : goal.invariant-loop-literal
invariant-loop-literal l = (rest : ℕ × ℕ) → first_flips l.sign l.variables (drop l.literal-index l.clause) rest ≡ first_flips l.sign l.variables l.clause rest
