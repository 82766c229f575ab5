use Rattle.std.proofs.Common.{◌≡◌, ◌++◌, ◌∷◌, [], Ok, map, ap, ◌∙◌}
use Rattle.std.proofs.lemmas.Result.{err_from_is_err_and}
use Rattle.std.proofs.lemmas.List.{map_push}
use Rattle.td_syntax.specs.Views.{port_view, step_view}
use Rattle.td_syntax.specs.Readers.{many}
use Rattle.td_syntax.specs.Parsing.{port_step}
use Rattle.td_syntax.proofs.Lists.{goes_on, final, is_done, fails}
use Rattle.td_syntax.proofs.SoundDeclarations.{ports_shorten}
use Rattle.td_syntax.proofs.parser.Parser.declared_ports.Goals as goal

pub ports-smaller : goal.ports-smaller
ports-smaller c =
    let e = c.in_ok-port.ensures ∙ ap (λ (x : _). Ok (step_view port_view x, c.port_step.new.self)) c.in-More.is in
    ports_shorten.by c.len.result c.ports.self (port_view c.in-More.port) c.port_step.new.self e

pub ports-preserved : goal.ports-preserved
ports-preserved c =
    let e = c.in_ok-port.ensures ∙ ap (λ (x : _). Ok (step_view port_view x, c.port_step.new.self)) c.in-More.is in
    let pushed : map port_view c.push.new.self.items ≡ map port_view c.ports.ports.items ++ port_view c.in-More.port ∷ [] = rw c.in_ok-push-in-More.ensures.items (map_push port_view c.ports.ports.items c.in-More.port) in
    goes_on port_step ports_shorten port_view c.ports.ports.items c.push.new.self.items c.ports.self (port_view c.in-More.port) c.port_step.new.self (many port_step c.args.self.now) (rw (← (c.len.ensures ∙ c.ports.ports.ok.0)) e) pushed c.ports.invariant

pub returns-in_err-port : goal.returns-in_err-port
returns-in_err-port c =
    let p = err_from_is_err_and c.from_residual.result c.from_residual.ensures.1 in
    rw (p.1, p.2) (fails port_step ports_shorten port_view c.in_err-port.field-0.0 c.ports.ports.items c.ports.self (many port_step c.args.self.now) (rw (← (c.len.ensures ∙ c.ports.ports.ok.0)) c.in_err-port.ensures) c.ports.invariant)

pub returns-in-Final : goal.returns-in-Final
returns-in-Final c =
    let e = c.in_ok-port.ensures ∙ ap (λ (x : _). Ok (step_view port_view x, c.port_step.new.self)) c.in-Final.is in
    let pushed : map port_view c.push-in-Final.new.self.items ≡ map port_view c.ports.ports.items ++ port_view c.in-Final.port ∷ [] = rw c.in_ok-push-in-Final.ensures.items (map_push port_view c.ports.ports.items c.in-Final.port) in
    final port_step ports_shorten port_view c.ports.ports.items c.push-in-Final.new.self.items c.ports.self (port_view c.in-Final.port) c.port_step.new.self (many port_step c.args.self.now) (rw (← (c.len.ensures ∙ c.ports.ports.ok.0)) e) pushed c.ports.invariant

pub returns-in-Done : goal.returns-in-Done
returns-in-Done c =
    let e = c.in_ok-port.ensures ∙ ap (λ (x : _). Ok (step_view port_view x, c.port_step.new.self)) c.in-Done.is in
    is_done port_step ports_shorten port_view c.ports.ports.items c.ports.self c.port_step.new.self (many port_step c.args.self.now) (rw (← (c.len.ensures ∙ c.ports.ports.ok.0)) e) c.ports.invariant
