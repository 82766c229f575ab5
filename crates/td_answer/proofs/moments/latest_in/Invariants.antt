use Rattle.std.proofs.Common.{◌≡◌, drop, max}
use Rattle.td_answer.specs.Simulations.{latest_in}
use Rattle.td_answer.proofs.moments.latest_in.Given as goal

abbrev pub invariant-loop-row : goal.invariant-loop-row
invariant-loop-row l = max l.latest (latest_in (drop l.row-index l.rows)) ≡ latest_in l.rows
