use Rattle.std.proofs.Common.{◌≡◌, ◌++◌, ◌∷◌, [], Ok, map, ap, ◌∙◌}
use Rattle.std.proofs.lemmas.Result.{err_from_is_err_and}
use Rattle.std.proofs.lemmas.List.{map_push}
use Rattle.td_syntax.specs.Views.{step_view}
use Rattle.td_syntax.specs.Readers.{many}
use Rattle.td_syntax.specs.Parsing.{behind_step}
use Rattle.td_syntax.proofs.Lists.{goes_on, final, is_done, fails, same, map_same}
use Rattle.td_syntax.proofs.SoundHeads.{behind_shortens}
use Rattle.td_syntax.proofs.parser.Parser.directives.Goals as goal

pub directives-smaller : goal.directives-smaller
directives-smaller c =
    let e = c.in_ok-directive.ensures ∙ ap (λ (x : _). Ok (step_view same x, c.behind_step.new.self)) c.in-More.is in
    behind_shortens.by c.len.result c.directives.self (same c.in-More.directive) c.behind_step.new.self e

pub directives-preserved : goal.directives-preserved
directives-preserved c =
    let e = c.in_ok-directive.ensures ∙ ap (λ (x : _). Ok (step_view same x, c.behind_step.new.self)) c.in-More.is in
    let pushed : map same c.push.new.self.items ≡ map same c.directives.directives.items ++ same c.in-More.directive ∷ [] = rw c.in_ok-push-in-More.ensures.items (map_push same c.directives.directives.items c.in-More.directive) in
    goes_on behind_step behind_shortens same c.directives.directives.items c.push.new.self.items c.directives.self (same c.in-More.directive) c.behind_step.new.self (many behind_step c.args.self.now) (rw (← (c.len.ensures ∙ c.directives.directives.ok.0)) e) pushed c.directives.invariant

pub returns-in_err-directive : goal.returns-in_err-directive
returns-in_err-directive c =
    let p = err_from_is_err_and c.from_residual.result c.from_residual.ensures.1 in
    rw (p.1, p.2) (fails behind_step behind_shortens same c.in_err-directive.field-0.0 c.directives.directives.items c.directives.self (many behind_step c.args.self.now) (rw (← (c.len.ensures ∙ c.directives.directives.ok.0)) c.in_err-directive.ensures) c.directives.invariant)

pub returns-in-Final : goal.returns-in-Final
returns-in-Final c =
    let e = c.in_ok-directive.ensures ∙ ap (λ (x : _). Ok (step_view same x, c.behind_step.new.self)) c.in-Final.is in
    let pushed : map same c.push-in-Final.new.self.items ≡ map same c.directives.directives.items ++ same c.in-Final.directive ∷ [] = rw c.in_ok-push-in-Final.ensures.items (map_push same c.directives.directives.items c.in-Final.directive) in
    final behind_step behind_shortens same c.directives.directives.items c.push-in-Final.new.self.items c.directives.self (same c.in-Final.directive) c.behind_step.new.self (many behind_step c.args.self.now) (rw (← (c.len.ensures ∙ c.directives.directives.ok.0)) e) pushed c.directives.invariant ∙ ap (λ (xs : _). Ok (xs, c.behind_step.new.self)) (map_same c.push-in-Final.new.self.items)

pub returns-in-Done : goal.returns-in-Done
returns-in-Done c =
    let e = c.in_ok-directive.ensures ∙ ap (λ (x : _). Ok (step_view same x, c.behind_step.new.self)) c.in-Done.is in
    is_done behind_step behind_shortens same c.directives.directives.items c.directives.self c.behind_step.new.self (many behind_step c.args.self.now) (rw (← (c.len.ensures ∙ c.directives.directives.ok.0)) e) c.directives.invariant ∙ ap (λ (xs : _). Ok (xs, c.behind_step.new.self)) (map_same c.directives.directives.items)
