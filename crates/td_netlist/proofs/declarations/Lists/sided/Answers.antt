use Rattle.std.proofs.Common.{List, map, ap, sym, subst, ◌∙◌}
use Rattle.std.proofs.lemmas.Result.{err_from_is_err_and}
use Rattle.td_syntax.specs.declared.syntax.Item.{Item}
use Rattle.td_syntax.specs.Views.{module_view, item_view}
use Rattle.td_netlist.specs.Faults.{Fails}
use Rattle.td_netlist.specs.Checks as checks
use Rattle.td_netlist.specs.Checks.{each}
use Rattle.td_netlist.specs.CheckViews.{lists_of}
use Rattle.td_netlist.proofs.DeclaredAt.{items_fail, sides_fail}
use Rattle.td_netlist.proofs.declarations.Lists.sided.Goals as goal

pub returns-in_err-declare_items : goal.returns-in_err-declare_items
returns-in_err-declare_items c =
    let lists = lists_of c.args.self.now in
    let e = subst (λ (is : List Item). Fails c.in_err-declare_items.field-0.0 (each checks.declare_item lists (map item_view is))) c.deref.ensures.value c.in_err-declare_items.ensures in
    let p = err_from_is_err_and c.from_residual.result c.from_residual.ensures.1 in
    rw (p.1, p.2) (items_fail (module_view c.args.source.now) lists c.in_err-declare_items.field-0.0 e)

pub returns-in_err-sides : goal.returns-in_err-sides
returns-in_err-sides c =
    let lists = lists_of c.args.self.now in
    let ok = ap (λ (is : List Item). each checks.declare_item lists (map item_view is)) (sym c.deref.ensures.value) ∙ c.in_ok-declare_items.ensures in
    let p = err_from_is_err_and c.from_residual-in_err-sides.result c.from_residual-in_err-sides.ensures.1 in
    rw (p.1, p.2) (sides_fail (module_view c.args.source.now) lists (lists_of c.declare_items.new.self) c.in_err-sides.field-0.0 ok c.in_err-sides.ensures)
