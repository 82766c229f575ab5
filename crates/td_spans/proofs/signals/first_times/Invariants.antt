use Rattle.std.proofs.Common.{◌≡◌, map, take}
use Rattle.td_spans.specs.Signals.{times_from}
use Rattle.td_spans.proofs.signals.first_times.Given as goal

abbrev pub invariant-loop-signal : goal.invariant-loop-signal
invariant-loop-signal l = l.times.items ≡ map times_from (take l.signal-index l.all)
