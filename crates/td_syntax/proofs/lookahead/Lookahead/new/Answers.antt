use Rattle.std.proofs.Common.{◌≤◌, length, sym, subst, ◌∙◌}
use Rattle.td_syntax.specs.Tokens.{Stream}
use Rattle.td_syntax.proofs.Lexing.{fronted_by}
use Rattle.td_syntax.proofs.lookahead.Lookahead.new.Goals as goal

pub invariant_of-result : goal.invariant_of-result
invariant_of-result c =
    subst (λ (s : Stream). length s.tokens ≤ 67108865) (sym (fronted_by _ _ _ c.next.ensures.front c.next.ensures.rest)) c.is_within.ensures

pub returns : goal.returns
returns c = fronted_by _ _ _ c.next.ensures.front c.next.ensures.rest ∙ c.new-behind.ensures
