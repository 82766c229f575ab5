use Rattle.std.proofs.Common.{◌∙◌}
use Rattle.std.proofs.lemmas.Result.{err_from_is_err_and}
use Rattle.td_syntax.specs.Views.{module_view}
use Rattle.td_netlist.proofs.Readings.{found_as, only_as, parse_memory, first_by, broken_in}
use Rattle.td_netlist.proofs.meaning.read.Goals as goal

pub returns-in_err-module-clause-only : goal.returns-in_err-module-clause-only
returns-in_err-module-clause-only c n means =
    let p = err_from_is_err_and c.from_residual.result c.from_residual.ensures.1 in
    rw p.1 (p.2.0 ∙ parse_memory c.in_err-module.field-0.0 means.tree (c.in_err-module.ensures.only means.tree means.parses))

pub returns-in_err-module-clause-fault : goal.returns-in_err-module-clause-fault
returns-in_err-module-clause-fault c =
    let e = c.in_err-module.field-0.0 in
    let p = err_from_is_err_and c.from_residual.result c.from_residual.ensures.1 in
    rw (p.1, p.2.0, p.2.1) (first_by c.args.text.now e.kind e.line c.in_err-module.ensures.exact)

pub returns-clause-found : goal.returns-clause-found
returns-clause-found c = found_as c.args.text.now (module_view c.in_ok-module.module) c.args.default c.in_ok-module.ensures.found c.netlist.result c.netlist.ensures.consistent c.netlist.ensures.lists c.netlist.ensures.formed

pub returns-clause-only : goal.returns-clause-only
returns-clause-only c n means = only_as c.args.text.now (module_view c.in_ok-module.module) c.args.default c.in_ok-module.ensures.found c.netlist.result c.netlist.ensures.lists c.netlist.ensures.breaks n means

pub returns-clause-fault : goal.returns-clause-fault
returns-clause-fault c = broken_in c.args.text.now (module_view c.in_ok-module.module) c.netlist.result c.in_ok-module.ensures.found c.netlist.ensures.breaks c.netlist.ensures.first
