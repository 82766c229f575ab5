use Rattle.std.proofs.Common.{◌≡◌, ◌≢◌, ℕ, ◌<◌, Some}
use Rattle.std.specs.Prelude.{slice_get}
use Rattle.td_gates.specs.Wave.{last}
use Rattle.td_path.specs.Walks.{wave_at}
use Rattle.td_path.proofs.latest.latest_net.Given as goal

abbrev pub invariant-loop-net : goal.invariant-loop-net
invariant-loop-net l = (k other : ℕ) → k < l.net-index → slice_get l.nets k ≡ Some other
    → last (wave_at l.run.waves other) ≢ Some l.latest
