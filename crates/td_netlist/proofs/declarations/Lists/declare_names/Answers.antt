use Rattle.std.proofs.Common.{map}
use Rattle.std.proofs.lemmas.Result.{err_from_is_err_and}
use Rattle.td_syntax.specs.Views.{name_view}
use Rattle.td_netlist.specs.Checks as checks
use Rattle.td_netlist.specs.Checks.{each}
use Rattle.td_netlist.specs.CheckViews.{lists_of}
use Rattle.td_netlist.proofs.Walks.{goes, fails, ends}
use Rattle.td_netlist.proofs.declarations.Lists.declare_names.Goals as goal

pub loop-name-preserved : goal.loop-name-preserved
loop-name-preserved c = goes (checks.declare c.args.role c.args.range) name_view c.args.names.now c.loop-name.name-index _ (lists_of c.loop-name.self) (each (checks.declare c.args.role c.args.range) (lists_of c.args.self.now) (map name_view c.args.names.now)) (lists_of c.declare.new.self) c.loop-name-test.true c.in_ok-declare.ensures c.loop-name.invariant

pub returns-in_err-declare : goal.returns-in_err-declare
returns-in_err-declare c =
    let p = err_from_is_err_and c.from_residual.result c.from_residual.ensures.1 in
    rw (p.1, p.2) (fails (checks.declare c.args.role c.args.range) name_view c.args.names.now c.loop-name.name-index _ (lists_of c.loop-name.self) (each (checks.declare c.args.role c.args.range) (lists_of c.args.self.now) (map name_view c.args.names.now)) c.in_err-declare.field-0.0 c.loop-name-test.true c.in_err-declare.ensures c.loop-name.invariant)

pub returns : goal.returns
returns c = ends (checks.declare c.args.role c.args.range) name_view c.args.names.now c.loop-name.name-index (lists_of c.loop-name.self) (each (checks.declare c.args.role c.args.range) (lists_of c.args.self.now) (map name_view c.args.names.now)) c.loop-name-test.false c.loop-name.invariant
