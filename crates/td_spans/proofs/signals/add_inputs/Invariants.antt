use Rattle.std.proofs.Common.{◌≡◌}
use Rattle.td_spans.specs.Signals.{inputs_to}
use Rattle.td_spans.proofs.signals.add_inputs.Given as goal

abbrev pub invariant-loop-input : goal.invariant-loop-input
invariant-loop-input l = l.signals.items ≡ inputs_to l.admit l.cube l.moments l.inputs l.input
