use Rattle.std.proofs.Common.{◌≡◌, ◌++◌, ◌∷◌, [], Ok, map, ap, ◌∙◌}
use Rattle.std.proofs.lemmas.Result.{err_from_is_err_and}
use Rattle.std.proofs.lemmas.List.{map_push}
use Rattle.td_syntax.specs.Views.{terminal_view, step_view}
use Rattle.td_syntax.specs.Readers.{many}
use Rattle.td_syntax.specs.Parsing.{terminal_step}
use Rattle.td_syntax.proofs.Lists.{goes_on, final, is_done, fails}
use Rattle.td_syntax.proofs.SoundGates.{terminals_shorten}
use Rattle.td_syntax.proofs.parser.Parser.terminals.Goals as goal

pub terminals-smaller : goal.terminals-smaller
terminals-smaller c =
    let e = c.in_ok-terminal.ensures ∙ ap (λ (x : _). Ok (step_view terminal_view x, c.terminal_step.new.self)) c.in-More.is in
    (terminals_shorten c.args.kind).by c.len.result c.terminals.self (terminal_view c.in-More.terminal) c.terminal_step.new.self e

pub terminals-preserved : goal.terminals-preserved
terminals-preserved c =
    let e = c.in_ok-terminal.ensures ∙ ap (λ (x : _). Ok (step_view terminal_view x, c.terminal_step.new.self)) c.in-More.is in
    let pushed : map terminal_view c.push.new.self.items ≡ map terminal_view c.terminals.terminals.items ++ terminal_view c.in-More.terminal ∷ [] = rw c.in_ok-push-in-More.ensures.items (map_push terminal_view c.terminals.terminals.items c.in-More.terminal) in
    goes_on (terminal_step c.args.kind) (terminals_shorten c.args.kind) terminal_view c.terminals.terminals.items c.push.new.self.items c.terminals.self (terminal_view c.in-More.terminal) c.terminal_step.new.self (many (terminal_step c.args.kind) c.args.self.now) (rw (← (c.len.ensures ∙ c.terminals.terminals.ok.0)) e) pushed c.terminals.invariant

pub returns-in_err-terminal : goal.returns-in_err-terminal
returns-in_err-terminal c =
    let p = err_from_is_err_and c.from_residual.result c.from_residual.ensures.1 in
    rw (p.1, p.2) (fails (terminal_step c.args.kind) (terminals_shorten c.args.kind) terminal_view c.in_err-terminal.field-0.0 c.terminals.terminals.items c.terminals.self (many (terminal_step c.args.kind) c.args.self.now) (rw (← (c.len.ensures ∙ c.terminals.terminals.ok.0)) c.in_err-terminal.ensures) c.terminals.invariant)

pub returns-in-Final : goal.returns-in-Final
returns-in-Final c =
    let e = c.in_ok-terminal.ensures ∙ ap (λ (x : _). Ok (step_view terminal_view x, c.terminal_step.new.self)) c.in-Final.is in
    let pushed : map terminal_view c.push-in-Final.new.self.items ≡ map terminal_view c.terminals.terminals.items ++ terminal_view c.in-Final.terminal ∷ [] = rw c.in_ok-push-in-Final.ensures.items (map_push terminal_view c.terminals.terminals.items c.in-Final.terminal) in
    final (terminal_step c.args.kind) (terminals_shorten c.args.kind) terminal_view c.terminals.terminals.items c.push-in-Final.new.self.items c.terminals.self (terminal_view c.in-Final.terminal) c.terminal_step.new.self (many (terminal_step c.args.kind) c.args.self.now) (rw (← (c.len.ensures ∙ c.terminals.terminals.ok.0)) e) pushed c.terminals.invariant

pub returns-in-Done : goal.returns-in-Done
returns-in-Done c =
    let e = c.in_ok-terminal.ensures ∙ ap (λ (x : _). Ok (step_view terminal_view x, c.terminal_step.new.self)) c.in-Done.is in
    is_done (terminal_step c.args.kind) (terminals_shorten c.args.kind) terminal_view c.terminals.terminals.items c.terminals.self c.terminal_step.new.self (many (terminal_step c.args.kind) c.args.self.now) (rw (← (c.len.ensures ∙ c.terminals.terminals.ok.0)) e) c.terminals.invariant
