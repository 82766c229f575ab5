use Rattle.std.proofs.Common.{arith}
use Rattle.td_arrival.specs.ArrivalLaws.{closes_within}
use Rattle.td_arrival.proofs.gates.closing.Goals as goal

pub loop-signal-init : goal.loop-signal-init
loop-signal-init c = record {
  most = omega arith;
  rest = omega (arith, closes_within c.args.control c.args.latest c.args.signals.now);
}
