use Rattle.std.proofs.Common.{◌≡◌, Ok, map, subst, sym}
use Rattle.std.proofs.lemmas.Result.{err_from_is_err_and}
use Rattle.td_syntax.specs.Views.{item_view}
use Rattle.td_syntax.specs.declared.syntax.Item.{Item}
use Rattle.td_netlist.specs.Faults.{Fails}
use Rattle.td_netlist.specs.Checks as checks
use Rattle.td_netlist.specs.Checks.{each, IsRanged}
use Rattle.td_netlist.specs.CheckViews.{lists_of}
use Rattle.td_netlist.proofs.Walks.{goes, fails, ends, at_place}
use Rattle.td_netlist.proofs.declarations.Lists.declare_items.Goals as goal

pub declare_item-requires : goal.declare_item-requires
declare_item-requires c = subst (λ (x : Item). IsRanged (item_view x)) (sym c.item-item.is) (at_place IsRanged item_view c.args.items.now c.loop-item.item-index c.item-item.result c.requires c.loop-item-test.true)

pub loop-item-preserved : goal.loop-item-preserved
loop-item-preserved c =
    let step = checks.declare_item in
    let e = subst (λ (x : Item). step (lists_of c.loop-item.self) (item_view x) ≡ Ok (lists_of c.declare_item.new.self)) c.item-item.is c.in_ok-declare_item.ensures in
    goes step item_view c.args.items.now c.loop-item.item-index c.item-item.result (lists_of c.loop-item.self) (each checks.declare_item (lists_of c.args.self.now) (map item_view c.args.items.now)) (lists_of c.declare_item.new.self) c.loop-item-test.true e c.loop-item.invariant

pub returns-in_err-declare_item : goal.returns-in_err-declare_item
returns-in_err-declare_item c =
    let p = err_from_is_err_and c.from_residual.result c.from_residual.ensures.1 in
    let step = checks.declare_item in
    let e = subst (λ (x : Item). Fails c.in_err-declare_item.field-0.0 (step (lists_of c.loop-item.self) (item_view x))) c.item-item.is c.in_err-declare_item.ensures in
    rw (p.1, p.2) (fails step item_view c.args.items.now c.loop-item.item-index c.item-item.result (lists_of c.loop-item.self) (each checks.declare_item (lists_of c.args.self.now) (map item_view c.args.items.now)) c.in_err-declare_item.field-0.0 c.loop-item-test.true e c.loop-item.invariant)

pub returns : goal.returns
returns c = ends checks.declare_item item_view c.args.items.now c.loop-item.item-index (lists_of c.loop-item.self) (each checks.declare_item (lists_of c.args.self.now) (map item_view c.args.items.now)) c.loop-item-test.false c.loop-item.invariant
