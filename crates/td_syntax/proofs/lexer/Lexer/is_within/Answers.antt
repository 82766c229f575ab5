use Rattle.std.proofs.Common.{◌+◌, ◌≤◌, length, subst, arith}
use Rattle.td_syntax.specs.Tokens.{Stream}
use Rattle.td_syntax.proofs.Lexing.{few_tokens}
use Rattle.td_syntax.proofs.lexer.Lexer.is_within.Goals as goal

pub returns : goal.returns
returns c =
    let l = c.self.inside in
    let within : l.line + length l.rest.now ≤ 67108865 = c.self.invariant in
    subst (λ (s : Stream). length s.tokens ≤ 67108865) c.self.view_is (omega (arith, within, few_tokens l.line l.rest.now))
