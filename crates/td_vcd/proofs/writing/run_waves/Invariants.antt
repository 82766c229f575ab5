use Rattle.std.proofs.Common.{◌≡◌, take}
use Rattle.td_run.specs.Waves.{waves_of}
use Rattle.td_vcd.proofs.Steps.{waves_behind}
use Rattle.td_vcd.proofs.writing.run_waves.Given as goal

abbrev pub invariant-loop-net : goal.invariant-loop-net
invariant-loop-net l = waves_behind l.waves.items ≡ waves_of l.run.waves (take l.net-index l.nets)
