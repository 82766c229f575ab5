use Rattle.std.proofs.Common.{◌≡◌, ◌≢◌, ℕ, ◌<◌, Some}
use Rattle.std.specs.Prelude.{slice_get}
use Rattle.td_lines.specs.declared.line.Last.{Last}
use Rattle.td_answer.proofs.moments.place_of.Given as goal

abbrev pub invariant-loop-place : goal.invariant-loop-place
invariant-loop-place l = (k : ℕ) (row : Last) → k < l.place → slice_get l.rows k ≡ Some row → row.moment ≢ Some l.moment
