use Rattle.std.proofs.Common.{◌≤◌, ◌+◌, arith}
use Rattle.td_netlist.proofs.Counts.{count_fits}
use Rattle.td_netlist.proofs.primitive.defaulted_count.Goals as goal

pub overflow_add-count : goal.overflow_add-count
overflow_add-count c =
    let below : c.loop-primitive.count + c.defaulted-count.result ≤ 200000 =
    count_fits c.args.primitives.now c.loop-primitive.primitive-index _ c.loop-primitive.count c.defaulted-count.result c.outputs.result.now _
    c.loop-primitive-test.true c.requires c.loop-primitive.invariant c.outputs.ensures c.defaulted-count.ensures in
    omega (arith, below)
