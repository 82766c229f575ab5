use Rattle.std.proofs.Common.{length, ap, arith}
use Rattle.td_spans.proofs.Edges.{inputs_length}
use Rattle.td_spans.proofs.Fronts.{near_inputs}
use Rattle.td_spans.proofs.signals.first_signals.Goals as goal

pub add_gates-requires-clause-count : goal.add_gates-requires-clause-count
add_gates-requires-clause-count c = omega (
  arith,
  ap length c.in_ok-add_inputs.ensures,
  inputs_length c.args.admit.now c.args.cube.now c.moments-moments.result.now c.input_count.result c.input_count.result,
  c.input_count.ensures,
)

pub add_gates-requires-clause-near : goal.add_gates-requires-clause-near
add_gates-requires-clause-near c = rw c.in_ok-add_inputs.ensures
    (near_inputs c.args.admit.now c.args.cube.now c.moments-moments.result.now c.input_count.result c.input_count.result
    (rw c.moments-moments.ensures.moments c.moments-moments.ensures.fit.within))
