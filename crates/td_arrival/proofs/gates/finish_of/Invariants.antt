use Rattle.std.proofs.Common.{◌≡◌, take, map}
use Rattle.td_gates.specs.Counts.{counts_of}
use Rattle.td_arrival.proofs.gates.finish_of.Given as goal

abbrev pub invariant-loop-signal : goal.invariant-loop-signal
invariant-loop-signal l = l.counts ≡ counts_of (map (λ signal. signal.finish) (take l.signal-index l.signals))
