use Rattle.std.proofs.Common.{◌≡◌, ◌++◌, ◌∷◌, [], Ok, map, ap, ◌∙◌}
use Rattle.std.proofs.lemmas.Result.{err_from_is_err_and}
use Rattle.std.proofs.lemmas.List.{map_push}
use Rattle.td_syntax.specs.Views.{instance_view, step_view}
use Rattle.td_syntax.specs.Readers.{many}
use Rattle.td_syntax.specs.Parsing.{instance_step}
use Rattle.td_syntax.proofs.Lists.{goes_on, final, is_done, fails}
use Rattle.td_syntax.proofs.SoundGates.{instances_shorten}
use Rattle.td_syntax.proofs.parser.Parser.instances.Goals as goal

pub instances-smaller : goal.instances-smaller
instances-smaller c =
    let e = c.in_ok-instance.ensures ∙ ap (λ (x : _). Ok (step_view instance_view x, c.instance_step.new.self)) c.in-More.is in
    (instances_shorten c.args.kind).by c.len.result c.instances.self (instance_view c.in-More.instance) c.instance_step.new.self e

pub instances-preserved : goal.instances-preserved
instances-preserved c =
    let e = c.in_ok-instance.ensures ∙ ap (λ (x : _). Ok (step_view instance_view x, c.instance_step.new.self)) c.in-More.is in
    let pushed : map instance_view c.push.new.self.items ≡ map instance_view c.instances.instances.items ++ instance_view c.in-More.instance ∷ [] = rw c.in_ok-push-in-More.ensures.items (map_push instance_view c.instances.instances.items c.in-More.instance) in
    goes_on (instance_step c.args.kind) (instances_shorten c.args.kind) instance_view c.instances.instances.items c.push.new.self.items c.instances.self (instance_view c.in-More.instance) c.instance_step.new.self (many (instance_step c.args.kind) c.args.self.now) (rw (← (c.len.ensures ∙ c.instances.instances.ok.0)) e) pushed c.instances.invariant

pub returns-in_err-instance : goal.returns-in_err-instance
returns-in_err-instance c =
    let p = err_from_is_err_and c.from_residual.result c.from_residual.ensures.1 in
    rw (p.1, p.2) (fails (instance_step c.args.kind) (instances_shorten c.args.kind) instance_view c.in_err-instance.field-0.0 c.instances.instances.items c.instances.self (many (instance_step c.args.kind) c.args.self.now) (rw (← (c.len.ensures ∙ c.instances.instances.ok.0)) c.in_err-instance.ensures) c.instances.invariant)

pub returns-in-Final : goal.returns-in-Final
returns-in-Final c =
    let e = c.in_ok-instance.ensures ∙ ap (λ (x : _). Ok (step_view instance_view x, c.instance_step.new.self)) c.in-Final.is in
    let pushed : map instance_view c.push-in-Final.new.self.items ≡ map instance_view c.instances.instances.items ++ instance_view c.in-Final.instance ∷ [] = rw c.in_ok-push-in-Final.ensures.items (map_push instance_view c.instances.instances.items c.in-Final.instance) in
    final (instance_step c.args.kind) (instances_shorten c.args.kind) instance_view c.instances.instances.items c.push-in-Final.new.self.items c.instances.self (instance_view c.in-Final.instance) c.instance_step.new.self (many (instance_step c.args.kind) c.args.self.now) (rw (← (c.len.ensures ∙ c.instances.instances.ok.0)) e) pushed c.instances.invariant

pub returns-in-Done : goal.returns-in-Done
returns-in-Done c =
    let e = c.in_ok-instance.ensures ∙ ap (λ (x : _). Ok (step_view instance_view x, c.instance_step.new.self)) c.in-Done.is in
    is_done (instance_step c.args.kind) (instances_shorten c.args.kind) instance_view c.instances.instances.items c.instances.self c.instance_step.new.self (many (instance_step c.args.kind) c.args.self.now) (rw (← (c.len.ensures ∙ c.instances.instances.ok.0)) e) c.instances.invariant
