use Rattle.std.proofs.Common.{◌≡◌, drop, max}
use Rattle.td_circuit.specs.Run.{latest_change}
use Rattle.td_run.specs.Waves.{waves_of}
use Rattle.td_path.proofs.latest.latest_moment.Given as goal

abbrev pub invariant-loop-net : goal.invariant-loop-net
invariant-loop-net l = max l.latest (latest_change (waves_of l.run.waves (drop l.net-index l.nets))) ≡ latest_change (waves_of l.run.waves l.nets)
