use Rattle.std.proofs.Common.{map}
use Rattle.std.proofs.lemmas.Result.{err_from_is_err_and}
use Rattle.td_syntax.specs.Views.{name_view}
use Rattle.td_netlist.specs.Checks as checks
use Rattle.td_netlist.specs.Checks.{each}
use Rattle.td_netlist.specs.CheckViews.{sides_of}
use Rattle.td_netlist.proofs.Walks.{goes, fails, ends}
use Rattle.td_netlist.proofs.declarations.Sides.take_names.Goals as goal

pub loop-port-preserved : goal.loop-port-preserved
loop-port-preserved c = goes (checks.take_side c.args.directions.now) name_view c.args.ports.now c.loop-port.port-index _ (sides_of c.loop-port.self) (each (checks.take_side c.args.directions.now) (sides_of c.args.self.now) (map name_view c.args.ports.now)) (sides_of c.take.new.self) c.loop-port-test.true c.in_ok-take.ensures c.loop-port.invariant

pub returns-in_err-take : goal.returns-in_err-take
returns-in_err-take c =
    let p = err_from_is_err_and c.from_residual.result c.from_residual.ensures.1 in
    rw (p.1, p.2) (fails (checks.take_side c.args.directions.now) name_view c.args.ports.now c.loop-port.port-index _ (sides_of c.loop-port.self) (each (checks.take_side c.args.directions.now) (sides_of c.args.self.now) (map name_view c.args.ports.now)) c.in_err-take.field-0.0 c.loop-port-test.true c.in_err-take.ensures c.loop-port.invariant)

pub returns : goal.returns
returns c = ends (checks.take_side c.args.directions.now) name_view c.args.ports.now c.loop-port.port-index (sides_of c.loop-port.self) (each (checks.take_side c.args.directions.now) (sides_of c.args.self.now) (map name_view c.args.ports.now)) c.loop-port-test.false c.loop-port.invariant
