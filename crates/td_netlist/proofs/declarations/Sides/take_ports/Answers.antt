use Rattle.std.proofs.Common.{◌∙◌, List, map, ap, sym, subst}
use Rattle.std.proofs.lemmas.Result.{err_from_is_err_and}
use Rattle.td_gates.proofs.Places.{map-fuse}
use Rattle.td_syntax.specs.Grammar as grammar
use Rattle.td_syntax.specs.Views.{port_view}
use Rattle.td_syntax.specs.declared.syntax.Port.{Port}
use Rattle.td_netlist.specs.Faults.{Fails}
use Rattle.td_netlist.specs.Module.{port_name}
use Rattle.td_netlist.specs.Checks as checks
use Rattle.td_netlist.specs.Checks.{each}
use Rattle.td_netlist.specs.CheckViews.{sides_of}
use Rattle.td_netlist.proofs.Walks.{goes, fails, ends}
use Rattle.td_netlist.proofs.declarations.Sides.take_ports.Goals as goal

pub loop-port-preserved : goal.loop-port-preserved
loop-port-preserved c =
    let step = checks.take_side c.args.directions.now in
    let e = ap (λ (n : grammar.Name). step (sides_of c.loop-port.self) n) (sym c.port_name.ensures) ∙ c.in_ok-take.ensures in
    goes step (λ (p : Port). port_name (port_view p)) c.args.ports.now c.loop-port.port-index _ (sides_of c.loop-port.self) (each step (sides_of c.args.self.now) (map (λ (p : Port). port_name (port_view p)) c.args.ports.now)) (sides_of c.take.new.self) c.loop-port-test.true e c.loop-port.invariant

pub returns-in_err-take : goal.returns-in_err-take
returns-in_err-take c =
    let step = checks.take_side c.args.directions.now in
    let p = err_from_is_err_and c.from_residual.result c.from_residual.ensures.1 in
    let e = subst (λ (n : grammar.Name). Fails c.in_err-take.field-0.0 (step (sides_of c.loop-port.self) n)) c.port_name.ensures c.in_err-take.ensures in
    let all = map-fuse port_view port_name c.args.ports.now in
    rw (p.1, p.2, all) (fails step (λ (p : Port). port_name (port_view p)) c.args.ports.now c.loop-port.port-index _ (sides_of c.loop-port.self) (each step (sides_of c.args.self.now) (map (λ (p : Port). port_name (port_view p)) c.args.ports.now)) c.in_err-take.field-0.0 c.loop-port-test.true e c.loop-port.invariant)

pub returns : goal.returns
returns c =
    let step = checks.take_side c.args.directions.now in
    ap (λ (ns : List grammar.Name). each step (sides_of c.args.self.now) ns) (map-fuse port_view port_name c.args.ports.now)
    ∙ ends step (λ (p : Port). port_name (port_view p)) c.args.ports.now c.loop-port.port-index (sides_of c.loop-port.self) (each step (sides_of c.args.self.now) (map (λ (p : Port). port_name (port_view p)) c.args.ports.now)) c.loop-port-test.false c.loop-port.invariant
