use Rattle.std.proofs.Common.{map}
use Rattle.std.proofs.lemmas.Result.{err_from_is_err_and}
use Rattle.td_syntax.specs.Grammar.{IsPort}
use Rattle.td_syntax.specs.Views.{port_view}
use Rattle.td_netlist.specs.Checks as checks
use Rattle.td_netlist.specs.Checks.{each}
use Rattle.td_netlist.specs.CheckViews.{ported_of}
use Rattle.td_netlist.proofs.Walks.{goes, fails, ends, at_place}
use Rattle.td_netlist.proofs.declarations.Ported.declare_each.Goals as goal

pub declare-requires-clause-ranged : goal.declare-requires-clause-ranged
declare-requires-clause-ranged c = at_place IsPort port_view c.args.ports.now c.loop-port.port-index _ c.requires.ranged c.loop-port-test.true

pub loop-port-preserved : goal.loop-port-preserved
loop-port-preserved c = (
  goes (checks.declare_port) port_view c.args.ports.now c.loop-port.port-index _ (ported_of c.loop-port.self) (each (checks.declare_port) (ported_of c.args.self.now) (map port_view c.args.ports.now)) (ported_of c.declare.new.self) c.loop-port-test.true c.in_ok-declare.ensures.declared c.loop-port.invariant.0,
  c.declare.ensures.ranged,
)

pub returns-in_err-declare : goal.returns-in_err-declare
returns-in_err-declare c =
    let p = err_from_is_err_and c.from_residual.result c.from_residual.ensures.1 in
    rw (p.1, p.2) (fails (checks.declare_port) port_view c.args.ports.now c.loop-port.port-index _ (ported_of c.loop-port.self) (each (checks.declare_port) (ported_of c.args.self.now) (map port_view c.args.ports.now)) c.in_err-declare.field-0.0 c.loop-port-test.true c.in_err-declare.ensures.declared c.loop-port.invariant.0)

pub returns : goal.returns
returns c = ends (checks.declare_port) port_view c.args.ports.now c.loop-port.port-index (ported_of c.loop-port.self) (each (checks.declare_port) (ported_of c.args.self.now) (map port_view c.args.ports.now)) c.loop-port-test.false c.loop-port.invariant.0
