use Rattle.std.proofs.Common.{map}
use Rattle.std.proofs.lemmas.Result.{err_from_is_err_and}
use Rattle.td_netlist.specs.NameViews.{placed_ref_of}
use Rattle.td_netlist.specs.Checks as checks
use Rattle.td_netlist.specs.Checks.{each}
use Rattle.td_netlist.specs.CheckViews.{drivers_of}
use Rattle.td_netlist.proofs.Walks.{goes, fails, ends}
use Rattle.td_netlist.proofs.drivers.Drivers.read_outputs.Goals as goal

pub loop-output-preserved : goal.loop-output-preserved
unfolding checks.read_placed
loop-output-preserved c = goes (checks.read_placed (drivers_of c.args.self.now).driven) placed_ref_of c.args.outputs.now c.loop-output.output-index _ (tt) (each (checks.read_placed (drivers_of c.args.self.now).driven) (tt) (map placed_ref_of c.args.outputs.now)) (tt) c.loop-output-test.true c.in_ok-read_from.ensures c.loop-output.invariant

pub returns-in_err-read_from : goal.returns-in_err-read_from
unfolding checks.read_placed
returns-in_err-read_from c =
    let p = err_from_is_err_and c.from_residual.result c.from_residual.ensures.1 in
    rw (p.1, p.2) (fails (checks.read_placed (drivers_of c.args.self.now).driven) placed_ref_of c.args.outputs.now c.loop-output.output-index _ (tt) (each (checks.read_placed (drivers_of c.args.self.now).driven) (tt) (map placed_ref_of c.args.outputs.now)) c.in_err-read_from.field-0.0 c.loop-output-test.true c.in_err-read_from.ensures c.loop-output.invariant)

pub returns : goal.returns
returns c = ends (checks.read_placed (drivers_of c.args.self.now).driven) placed_ref_of c.args.outputs.now c.loop-output.output-index (tt) (each (checks.read_placed (drivers_of c.args.self.now).driven) (tt) (map placed_ref_of c.args.outputs.now)) c.loop-output-test.false c.loop-output.invariant
