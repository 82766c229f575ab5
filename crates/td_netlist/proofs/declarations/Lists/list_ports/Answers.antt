use Rattle.std.proofs.Common.{map}
use Rattle.std.proofs.lemmas.Result.{err_from_is_err_and}
use Rattle.td_syntax.specs.Views.{name_view}
use Rattle.td_netlist.specs.Checks as checks
use Rattle.td_netlist.specs.Checks.{each}
use Rattle.td_netlist.specs.CheckViews.{lists_of}
use Rattle.td_netlist.proofs.Walks.{goes, fails, ends}
use Rattle.td_netlist.proofs.declarations.Lists.list_ports.Goals as goal

pub loop-port-preserved : goal.loop-port-preserved
loop-port-preserved c = goes (checks.with_port) name_view c.args.ports.now c.loop-port.port-index _ (lists_of c.loop-port.self) (each (checks.with_port) (lists_of c.args.self.now) (map name_view c.args.ports.now)) (lists_of c.list_port.new.self) c.loop-port-test.true c.in_ok-list_port.ensures c.loop-port.invariant

pub returns-in_err-list_port : goal.returns-in_err-list_port
returns-in_err-list_port c =
    let p = err_from_is_err_and c.from_residual.result c.from_residual.ensures.1 in
    rw (p.1, p.2) (fails (checks.with_port) name_view c.args.ports.now c.loop-port.port-index _ (lists_of c.loop-port.self) (each (checks.with_port) (lists_of c.args.self.now) (map name_view c.args.ports.now)) c.in_err-list_port.field-0.0 c.loop-port-test.true c.in_err-list_port.ensures c.loop-port.invariant)

pub returns : goal.returns
returns c = ends (checks.with_port) name_view c.args.ports.now c.loop-port.port-index (lists_of c.loop-port.self) (each (checks.with_port) (lists_of c.args.self.now) (map name_view c.args.ports.now)) c.loop-port-test.false c.loop-port.invariant
