use Rattle.std.proofs.Common.{◌≡◌, take}
use Rattle.td_vcd.specs.Chosen.{kept_of}
use Rattle.td_vcd.proofs.Steps.{waves_behind}
use Rattle.td_vcd.proofs.writing.chosen_waves.Given as goal

abbrev pub invariant-loop-net : goal.invariant-loop-net
invariant-loop-net l = waves_behind l.waves.items ≡ kept_of l.kept (take l.net-index l.chosen)
