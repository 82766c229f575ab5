use Rattle.std.proofs.Common.{◌∙◌, List, map, sym, ap}
use Rattle.std.proofs.lemmas.Result.{IfOk-weaker, err_from_is_err_and}
use Rattle.td_syntax.specs.Views.{module_view}
use Rattle.td_netlist.specs.Module.{Primitive}
use Rattle.td_netlist.specs.Checks.{driven_at}
use Rattle.td_netlist.specs.CheckViews.{primitive_of, sides_of, drivers_of}
use Rattle.td_netlist.proofs.Netlists.{declared_fault, driven_fault, passed, declared_first, driven_first}
use Rattle.td_netlist.proofs.meaning.from_instances.Goals as goal

pub returns-in_err-sides-clause-breaks : goal.returns-in_err-sides-clause-breaks
returns-in_err-sides-clause-breaks c =
    let p = err_from_is_err_and c.from_residual.result c.from_residual.ensures.1 in
    rw (p.1, p.2) (declared_fault (module_view c.args.source.now) c.requires.ports c.in_err-sides.field-0.0 c.in_err-sides.ensures)

pub returns-in_err-drivers-clause-breaks : goal.returns-in_err-drivers-clause-breaks
returns-in_err-drivers-clause-breaks c =
    let m = module_view c.args.source.now in
    let p = err_from_is_err_and c.from_residual-in_err-drivers.result c.from_residual-in_err-drivers.ensures.1 in
    rw (p.1, p.2) (driven_fault m c.requires.ports (sides_of c.in_ok-sides.sides) c.in_ok-sides.names c.in_ok-sides.ensures (map primitive_of c.args.instances.now) c.requires.instances c.in_err-drivers.field-0.0 c.in_err-drivers.ensures)

pub returns-in_err-sides-clause-first : goal.returns-in_err-sides-clause-first
returns-in_err-sides-clause-first c =
    let p = err_from_is_err_and c.from_residual.result c.from_residual.ensures.1 in
    rw (p.1, p.2) (declared_first (module_view c.args.source.now) c.requires.ports c.in_err-sides.field-0.0 c.in_err-sides.ensures)

pub returns-in_err-drivers-clause-first : goal.returns-in_err-drivers-clause-first
returns-in_err-drivers-clause-first c =
    let m = module_view c.args.source.now in
    let p = err_from_is_err_and c.from_residual-in_err-drivers.result c.from_residual-in_err-drivers.ensures.1 in
    rw (p.1, p.2) (driven_first m c.requires.ports (sides_of c.in_ok-sides.sides) c.in_ok-sides.names c.in_ok-sides.ensures (map primitive_of c.args.instances.now) c.requires.instances c.in_err-drivers.field-0.0 c.in_err-drivers.ensures)

pub listed-requires-clause-checked : goal.listed-requires-clause-checked
listed-requires-clause-checked c =
    record {
      declared = c.in_ok-sides.names;
      drivers = drivers_of c.in_ok-drivers.drivers;
      declares = c.in_ok-sides.ensures;
      drives = ap (λ (ps : List Primitive). driven_at (sides_of c.in_ok-sides.sides) c.in_ok-sides.names ps) (sym c.requires.instances) ∙ c.in_ok-drivers.ensures;
      named = c.names.ensures;
      lists = c.requires.instances;
    }

pub returns-clause-consistent : goal.returns-clause-consistent
returns-clause-consistent c =
    let all =
    passed (module_view c.args.source.now) c.requires.ports (sides_of c.in_ok-sides.sides) c.in_ok-sides.names c.in_ok-sides.ensures (map primitive_of c.args.instances.now) c.requires.instances (drivers_of c.in_ok-drivers.drivers) c.in_ok-drivers.ensures in
    IfOk-weaker c.listed.result _ _ (λ _ is. all.consistent) c.listed.ensures.lists
