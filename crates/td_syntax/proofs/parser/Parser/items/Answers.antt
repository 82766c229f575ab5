use Rattle.std.proofs.Common.{◌≡◌, ◌++◌, ◌∷◌, [], Ok, map, ap, ◌∙◌}
use Rattle.std.proofs.lemmas.Result.{err_from_is_err_and}
use Rattle.std.proofs.lemmas.List.{map_push}
use Rattle.td_syntax.specs.Views.{item_view, step_view}
use Rattle.td_syntax.specs.Readers.{many}
use Rattle.td_syntax.specs.Parsing.{item_step}
use Rattle.td_syntax.proofs.Lists.{goes_on, final, is_done, fails}
use Rattle.td_syntax.proofs.SoundItems.{items_shorten}
use Rattle.td_syntax.proofs.parser.Parser.items.Goals as goal

pub items-smaller : goal.items-smaller
items-smaller c =
    let e = c.in_ok-item.ensures ∙ ap (λ (x : _). Ok (step_view item_view x, c.item_step.new.self)) c.in-More.is in
    (items_shorten c.args.tens).by c.len.result c.items.self (item_view c.in-More.item) c.item_step.new.self e

pub items-preserved : goal.items-preserved
items-preserved c =
    let e = c.in_ok-item.ensures ∙ ap (λ (x : _). Ok (step_view item_view x, c.item_step.new.self)) c.in-More.is in
    let pushed : map item_view c.push.new.self.items ≡ map item_view c.items.items.items ++ item_view c.in-More.item ∷ [] = rw c.in_ok-push-in-More.ensures.items (map_push item_view c.items.items.items c.in-More.item) in
    goes_on (item_step c.args.tens) (items_shorten c.args.tens) item_view c.items.items.items c.push.new.self.items c.items.self (item_view c.in-More.item) c.item_step.new.self (many (item_step c.args.tens) c.args.self.now) (rw (← (c.len.ensures ∙ c.items.items.ok.0)) e) pushed c.items.invariant

pub returns-in_err-item : goal.returns-in_err-item
returns-in_err-item c =
    let p = err_from_is_err_and c.from_residual.result c.from_residual.ensures.1 in
    rw (p.1, p.2) (fails (item_step c.args.tens) (items_shorten c.args.tens) item_view c.in_err-item.field-0.0 c.items.items.items c.items.self (many (item_step c.args.tens) c.args.self.now) (rw (← (c.len.ensures ∙ c.items.items.ok.0)) c.in_err-item.ensures) c.items.invariant)

pub returns-in-Final : goal.returns-in-Final
returns-in-Final c =
    let e = c.in_ok-item.ensures ∙ ap (λ (x : _). Ok (step_view item_view x, c.item_step.new.self)) c.in-Final.is in
    let pushed : map item_view c.push-in-Final.new.self.items ≡ map item_view c.items.items.items ++ item_view c.in-Final.item ∷ [] = rw c.in_ok-push-in-Final.ensures.items (map_push item_view c.items.items.items c.in-Final.item) in
    final (item_step c.args.tens) (items_shorten c.args.tens) item_view c.items.items.items c.push-in-Final.new.self.items c.items.self (item_view c.in-Final.item) c.item_step.new.self (many (item_step c.args.tens) c.args.self.now) (rw (← (c.len.ensures ∙ c.items.items.ok.0)) e) pushed c.items.invariant

pub returns-in-Done : goal.returns-in-Done
returns-in-Done c =
    let e = c.in_ok-item.ensures ∙ ap (λ (x : _). Ok (step_view item_view x, c.item_step.new.self)) c.in-Done.is in
    is_done (item_step c.args.tens) (items_shorten c.args.tens) item_view c.items.items.items c.items.self c.item_step.new.self (many (item_step c.args.tens) c.args.self.now) (rw (← (c.len.ensures ∙ c.items.items.ok.0)) e) c.items.invariant
