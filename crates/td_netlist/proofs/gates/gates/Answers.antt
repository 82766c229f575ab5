use Rattle.std.proofs.Common.{map}
use Rattle.std.proofs.lemmas.Result.{err_from_is_err_and}
use Rattle.td_netlist.specs.Making as making
use Rattle.td_netlist.specs.Checks.{each}
use Rattle.td_nets.specs.Views.{gate_of}
use Rattle.td_netlist.specs.CheckViews.{primitive_of}
use Rattle.std.proofs.Common.{[]}
use Rattle.td_netlist.proofs.Walks.{goes, fails, ends}
use Rattle.td_netlist.proofs.gates.gates.Goals as goal

pub loop-primitive-preserved : goal.loop-primitive-preserved
loop-primitive-preserved c = goes (making.with_gates c.args.names.now c.args.timing.now.tens c.args.timing.now.default) primitive_of c.args.primitives.now c.loop-primitive.primitive-index _ (map gate_of c.loop-primitive.gates.items) (each (making.with_gates c.args.names.now c.args.timing.now.tens c.args.timing.now.default) ([]) (map primitive_of c.args.primitives.now)) (map gate_of c.add_gates.new.gates.items) c.loop-primitive-test.true c.in_ok-add_gates.ensures c.loop-primitive.invariant

pub returns-in_err-add_gates : goal.returns-in_err-add_gates
returns-in_err-add_gates c =
    let p = err_from_is_err_and c.from_residual.result c.from_residual.ensures.1 in
    rw (p.1, p.2) (fails (making.with_gates c.args.names.now c.args.timing.now.tens c.args.timing.now.default) primitive_of c.args.primitives.now c.loop-primitive.primitive-index _ (map gate_of c.loop-primitive.gates.items) (each (making.with_gates c.args.names.now c.args.timing.now.tens c.args.timing.now.default) ([]) (map primitive_of c.args.primitives.now)) c.in_err-add_gates.field-0.0 c.loop-primitive-test.true c.in_err-add_gates.ensures c.loop-primitive.invariant)

pub returns : goal.returns
returns c = ends (making.with_gates c.args.names.now c.args.timing.now.tens c.args.timing.now.default) primitive_of c.args.primitives.now c.loop-primitive.primitive-index (map gate_of c.loop-primitive.gates.items) (each (making.with_gates c.args.names.now c.args.timing.now.tens c.args.timing.now.default) ([]) (map primitive_of c.args.primitives.now)) c.loop-primitive-test.false c.loop-primitive.invariant
