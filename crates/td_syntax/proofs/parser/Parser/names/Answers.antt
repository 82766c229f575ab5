use Rattle.std.proofs.Common.{◌≡◌, ◌++◌, ◌∷◌, [], Ok, map, ap, ◌∙◌}
use Rattle.std.proofs.lemmas.Result.{err_from_is_err_and}
use Rattle.std.proofs.lemmas.List.{map_push}
use Rattle.td_syntax.specs.Views.{name_view, step_view}
use Rattle.td_syntax.specs.Readers.{many, name_step, names_at}
use Rattle.td_syntax.proofs.Lists.{goes_on, final, is_done, fails}
use Rattle.td_syntax.proofs.SoundDelays.{names_shorten}
use Rattle.td_syntax.proofs.parser.Parser.names.Goals as goal

pub names-smaller : goal.names-smaller
names-smaller c =
    let e = c.in_ok-name.ensures ∙ ap (λ (x : _). Ok (step_view name_view x, c.name_step.new.self)) c.in-More.is in
    (names_shorten c.args.end).by c.len.result c.names.self (name_view c.in-More.name) c.name_step.new.self e

pub names-preserved : goal.names-preserved
names-preserved c =
    let e = c.in_ok-name.ensures ∙ ap (λ (x : _). Ok (step_view name_view x, c.name_step.new.self)) c.in-More.is in
    let pushed : map name_view c.push.new.self.items ≡ map name_view c.names.names.items ++ name_view c.in-More.name ∷ [] = rw c.in_ok-push-in-More.ensures.items (map_push name_view c.names.names.items c.in-More.name) in
    goes_on (name_step c.args.end) (names_shorten c.args.end) name_view c.names.names.items c.push.new.self.items c.names.self (name_view c.in-More.name) c.name_step.new.self (many (name_step c.args.end) c.args.self.now) (rw (← (c.len.ensures ∙ c.names.names.ok.0)) e) pushed c.names.invariant

pub returns-in_err-name : goal.returns-in_err-name
unfolding names_at
returns-in_err-name c =
    let p = err_from_is_err_and c.from_residual.result c.from_residual.ensures.1 in
    rw (p.1, p.2) (fails (name_step c.args.end) (names_shorten c.args.end) name_view c.in_err-name.field-0.0 c.names.names.items c.names.self (many (name_step c.args.end) c.args.self.now) (rw (← (c.len.ensures ∙ c.names.names.ok.0)) c.in_err-name.ensures) c.names.invariant)

pub returns-in-Final : goal.returns-in-Final
unfolding names_at
returns-in-Final c =
    let e = c.in_ok-name.ensures ∙ ap (λ (x : _). Ok (step_view name_view x, c.name_step.new.self)) c.in-Final.is in
    let pushed : map name_view c.push-in-Final.new.self.items ≡ map name_view c.names.names.items ++ name_view c.in-Final.name ∷ [] = rw c.in_ok-push-in-Final.ensures.items (map_push name_view c.names.names.items c.in-Final.name) in
    final (name_step c.args.end) (names_shorten c.args.end) name_view c.names.names.items c.push-in-Final.new.self.items c.names.self (name_view c.in-Final.name) c.name_step.new.self (many (name_step c.args.end) c.args.self.now) (rw (← (c.len.ensures ∙ c.names.names.ok.0)) e) pushed c.names.invariant

pub returns-in-Done : goal.returns-in-Done
unfolding names_at
returns-in-Done c =
    let e = c.in_ok-name.ensures ∙ ap (λ (x : _). Ok (step_view name_view x, c.name_step.new.self)) c.in-Done.is in
    is_done (name_step c.args.end) (names_shorten c.args.end) name_view c.names.names.items c.names.self c.name_step.new.self (many (name_step c.args.end) c.args.self.now) (rw (← (c.len.ensures ∙ c.names.names.ok.0)) e) c.names.invariant
