use Rattle.std.proofs.Common.{◌≡◌, ◌++◌, ◌∷◌, [], Ok, map, ap, ◌∙◌}
use Rattle.std.proofs.lemmas.Result.{err_from_is_err_and}
use Rattle.std.proofs.lemmas.List.{map_push}
use Rattle.td_syntax.specs.Views.{step_view}
use Rattle.td_syntax.specs.Readers.{many}
use Rattle.td_syntax.specs.Parsing.{front_step}
use Rattle.td_syntax.proofs.Lists.{goes_on, final, is_done, fails, same, map_same}
use Rattle.td_syntax.proofs.SoundHeads.{fronts_shorten}
use Rattle.td_syntax.proofs.parser.Parser.fronts.Goals as goal

pub fronts-smaller : goal.fronts-smaller
fronts-smaller c =
    let e = c.in_ok-front.ensures ∙ ap (λ (x : _). Ok (step_view same x, c.front_step.new.self)) c.in-More.is in
    fronts_shorten.by c.len.result c.fronts.self (same c.in-More.front) c.front_step.new.self e

pub fronts-preserved : goal.fronts-preserved
fronts-preserved c =
    let e = c.in_ok-front.ensures ∙ ap (λ (x : _). Ok (step_view same x, c.front_step.new.self)) c.in-More.is in
    let pushed : map same c.push.new.self.items ≡ map same c.fronts.fronts.items ++ same c.in-More.front ∷ [] = rw c.in_ok-push-in-More.ensures.items (map_push same c.fronts.fronts.items c.in-More.front) in
    goes_on front_step fronts_shorten same c.fronts.fronts.items c.push.new.self.items c.fronts.self (same c.in-More.front) c.front_step.new.self (many front_step c.args.self.now) (rw (← (c.len.ensures ∙ c.fronts.fronts.ok.0)) e) pushed c.fronts.invariant

pub returns-in_err-front : goal.returns-in_err-front
returns-in_err-front c =
    let p = err_from_is_err_and c.from_residual.result c.from_residual.ensures.1 in
    rw (p.1, p.2) (fails front_step fronts_shorten same c.in_err-front.field-0.0 c.fronts.fronts.items c.fronts.self (many front_step c.args.self.now) (rw (← (c.len.ensures ∙ c.fronts.fronts.ok.0)) c.in_err-front.ensures) c.fronts.invariant)

pub returns-in-Final : goal.returns-in-Final
returns-in-Final c =
    let e = c.in_ok-front.ensures ∙ ap (λ (x : _). Ok (step_view same x, c.front_step.new.self)) c.in-Final.is in
    let pushed : map same c.push-in-Final.new.self.items ≡ map same c.fronts.fronts.items ++ same c.in-Final.front ∷ [] = rw c.in_ok-push-in-Final.ensures.items (map_push same c.fronts.fronts.items c.in-Final.front) in
    final front_step fronts_shorten same c.fronts.fronts.items c.push-in-Final.new.self.items c.fronts.self (same c.in-Final.front) c.front_step.new.self (many front_step c.args.self.now) (rw (← (c.len.ensures ∙ c.fronts.fronts.ok.0)) e) pushed c.fronts.invariant ∙ ap (λ (xs : _). Ok (xs, c.front_step.new.self)) (map_same c.push-in-Final.new.self.items)

pub returns-in-Done : goal.returns-in-Done
returns-in-Done c =
    let e = c.in_ok-front.ensures ∙ ap (λ (x : _). Ok (step_view same x, c.front_step.new.self)) c.in-Done.is in
    is_done front_step fronts_shorten same c.fronts.fronts.items c.fronts.self c.front_step.new.self (many front_step c.args.self.now) (rw (← (c.len.ensures ∙ c.fronts.fronts.ok.0)) e) c.fronts.invariant ∙ ap (λ (xs : _). Ok (xs, c.front_step.new.self)) (map_same c.fronts.fronts.items)
