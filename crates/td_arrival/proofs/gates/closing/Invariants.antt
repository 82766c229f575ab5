use Rattle.std.proofs.Common.{◌≡◌, ◌≤◌, drop, min}
use Rattle.td_arrival.specs.Arrivals.{closes_at}
use Rattle.td_arrival.proofs.gates.closing.Given as goal

abbrev pub invariant-loop-signal : goal.invariant-loop-signal
invariant-loop-signal l = record {
  most : l.closes ≤ l.latest;
  rest : closes_at l.control l.latest l.signals ≡ min l.closes (closes_at l.control l.latest (drop l.signal-index l.signals));
}
