use Rattle.std.proofs.Common.{◌++◌, ◌∷◌, [], ap, ◌∙◌}
use Rattle.td_spans.proofs.Packings.{on_err, are_kept, all_kept, pushed_within, pushed}
use Rattle.td_spans.proofs.variables.Variables.push.Goals as goal

pub invariant_of-self-in_err-layout : goal.invariant_of-self-in_err-layout
invariant_of-self-in_err-layout c =
    rw (c.in_ok-reserve.ensures.items, c.in_ok-reserve-2.ensures.items)
    (are_kept c.self.inside.words.items c.put.new.words.items c.in_err-layout.ensures.kept c.self.inside.layouts.items c.self.inside.numbers.items c.self.invariant)

pub returns-in_err-layout-clause-err : goal.returns-in_err-layout-clause-err
returns-in_err-layout-clause-err c =
    on_err c.from_residual-in_err-layout.result
    (rw (c.in_ok-reserve.ensures.items, c.in_ok-reserve-2.ensures.items)
    (all_kept c.self.inside.words.items c.put.new.words.items c.in_err-layout.ensures.kept c.self.inside.layouts.items c.self.inside.numbers.items c.self.invariant)
    ∙ c.self.view_is)

pub invariant_of-self-2 : goal.invariant_of-self-2
invariant_of-self-2 c =
    pushed_within c.self.inside.words.items c.put.new.words.items c.self.inside.layouts.items c.push_reserved.new.self.items c.self.inside.numbers.items
    c.push_reserved-2.new.self.items c.in_ok-layout.layout c.in_ok-layout.number c.self.invariant c.in_ok-layout.ensures.kept c.in_ok-layout.ensures.within
    (c.push_reserved.ensures.items ∙ ap (λ list. list ++ c.in_ok-layout.layout ∷ []) c.in_ok-reserve.ensures.items)
    (c.push_reserved-2.ensures.items ∙ ap (λ list. list ++ c.in_ok-layout.number ∷ []) c.in_ok-reserve-2.ensures.items)

pub returns-clause-ok : goal.returns-clause-ok
returns-clause-ok c =
    pushed c.self.inside.words.items c.put.new.words.items c.self.inside.layouts.items c.push_reserved.new.self.items c.self.inside.numbers.items
    c.push_reserved-2.new.self.items c.in_ok-layout.layout c.in_ok-layout.number c.self.invariant c.in_ok-layout.ensures.kept c.in_ok-layout.ensures.within
    (c.push_reserved.ensures.items ∙ ap (λ list. list ++ c.in_ok-layout.layout ∷ []) c.in_ok-reserve.ensures.items)
    (c.push_reserved-2.ensures.items ∙ ap (λ list. list ++ c.in_ok-layout.number ∷ []) c.in_ok-reserve-2.ensures.items)
    c.args.variable c.in_ok-layout.ensures.says
    ∙ ap (λ list. list ++ c.args.variable ∷ []) c.self.view_is
