use Rattle.std.proofs.Common.{◌≡◌, map, take}
use Rattle.td_gates.specs.Wave.{last}
use Rattle.td_run.proofs.kept.last_moments.Given as goal

abbrev pub invariant-loop-wave : goal.invariant-loop-wave
invariant-loop-wave l = l.lasts.items ≡ map last (take l.wave-index l.waves)
