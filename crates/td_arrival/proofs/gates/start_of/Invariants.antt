use Rattle.std.proofs.Common.{◌≡◌, take, map}
use Rattle.td_gates.specs.Counts.{counts_of}
use Rattle.td_arrival.proofs.gates.start_of.Given as goal

abbrev pub invariant-loop-signal : goal.invariant-loop-signal
invariant-loop-signal l = l.counts ≡ counts_of (map (λ signal. signal.start) (take l.signal-index l.signals))
