use Rattle.std.proofs.Common.{map}
use Rattle.std.proofs.lemmas.Result.{err_from_is_err_and}
use Rattle.td_netlist.specs.Checks as checks
use Rattle.td_netlist.specs.Checks.{each}
use Rattle.td_netlist.specs.CheckViews.{drivers_of, primitive_of}
use Rattle.td_netlist.specs.NameViews.{name_ref_of}
use Rattle.td_netlist.proofs.Walks.{goes, fails, ends}
use Rattle.td_netlist.proofs.drivers.Drivers.drive_each.Goals as goal

pub loop-primitive-preserved : goal.loop-primitive-preserved
loop-primitive-preserved c = goes (checks.drive_all (map name_ref_of c.args.inputs.now)) primitive_of c.args.primitives.now c.loop-primitive.primitive-index _ (drivers_of c.loop-primitive.self) (each (checks.drive_all (map name_ref_of c.args.inputs.now)) (drivers_of c.args.self.now) (map primitive_of c.args.primitives.now)) (drivers_of c.drive_all.new.self) c.loop-primitive-test.true c.in_ok-drive_all.ensures c.loop-primitive.invariant

pub returns-in_err-drive_all : goal.returns-in_err-drive_all
returns-in_err-drive_all c =
    let p = err_from_is_err_and c.from_residual.result c.from_residual.ensures.1 in
    rw (p.1, p.2) (fails (checks.drive_all (map name_ref_of c.args.inputs.now)) primitive_of c.args.primitives.now c.loop-primitive.primitive-index _ (drivers_of c.loop-primitive.self) (each (checks.drive_all (map name_ref_of c.args.inputs.now)) (drivers_of c.args.self.now) (map primitive_of c.args.primitives.now)) c.in_err-drive_all.field-0.0 c.loop-primitive-test.true c.in_err-drive_all.ensures c.loop-primitive.invariant)

pub returns : goal.returns
returns c = ends (checks.drive_all (map name_ref_of c.args.inputs.now)) primitive_of c.args.primitives.now c.loop-primitive.primitive-index (drivers_of c.loop-primitive.self) (each (checks.drive_all (map name_ref_of c.args.inputs.now)) (drivers_of c.args.self.now) (map primitive_of c.args.primitives.now)) c.loop-primitive-test.false c.loop-primitive.invariant
