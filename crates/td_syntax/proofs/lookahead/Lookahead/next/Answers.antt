use Rattle.std.proofs.Common.{◌≤◌, suc, length, sym, subst, ◌∙◌, ap, arith}
use Rattle.td_syntax.specs.Tokens.{Stream, with_front, front_of, rest_of}
use Rattle.td_syntax.specs.Views.{front_view, placed_view}
use Rattle.td_syntax.proofs.Lexing.{fronted_by, front_in_front, rest_behind, rest_ended}
use Rattle.td_syntax.proofs.lookahead.Lookahead.next.Goals as goal

pub invariant_of-self : goal.invariant_of-self
invariant_of-self c =
    subst (λ (s : Stream). length s.tokens ≤ 67108865) (sym (fronted_by _ _ _ c.next-self-inside.ensures.front c.next-self-inside.ensures.rest)) (
    let within : suc (length c.self.inside.behind.tokens) ≤ 67108865 = subst (λ (f : _). length (with_front (front_view f) c.self.inside.behind).tokens ≤ 67108865) c.in-Next.is c.self.invariant in
    omega (arith, within)
    )

pub returns-in-Next-clause-front : goal.returns-in-Next-clause-front
returns-in-Next-clause-front c = sym (front_in_front (front_view c.self.inside.front) c.self.inside.behind) ∙ ap front_of c.self.view_is

pub returns-in-Next-clause-rest : goal.returns-in-Next-clause-rest
returns-in-Next-clause-rest c =
    fronted_by _ _ _ c.next-self-inside.ensures.front c.next-self-inside.ensures.rest
    ∙ sym (rest_behind (placed_view c.in-Next.field-0) c.self.inside.behind)
    ∙ ap rest_of (ap (λ (f : _). with_front (front_view f) c.self.inside.behind) (sym c.in-Next.is) ∙ c.self.view_is)

pub returns-in_default-clause-front : goal.returns-in_default-clause-front
returns-in_default-clause-front c = sym (front_in_front (front_view c.self.inside.front) c.self.inside.behind) ∙ ap front_of c.self.view_is

pub returns-in_default-clause-rest : goal.returns-in_default-clause-rest
returns-in_default-clause-rest c =
    let is = ap (λ (f : _). with_front (front_view f) c.self.inside.behind) c.in_default.is in
    sym c.self.view_is ∙ is ∙ sym (rest_ended c.in_default.field-0 c.in_default.field-1 c.self.inside.behind)
    ∙ ap rest_of (sym is ∙ c.self.view_is)
