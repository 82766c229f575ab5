use Rattle.std.proofs.Common.{◌++◌, ◌∷◌, [], ◌∙◌, ap}
use Rattle.td_propagation.proofs.Parts.{numbers_pushed, numbers_pushed_ends}
use Rattle.td_propagation.proofs.arena.Arena.push.Goals as goal

pub invariant_of-self-in-Ok : goal.invariant_of-self-in-Ok
invariant_of-self-in-Ok c =
    numbers_pushed_ends c.self.inside.numbers.items c.put.new.numbers.items c.args.clause.now c.self.inside.ends.items c.push_reserved.new.self.items
    c.in-Ok.end c.self.invariant c.in-Ok.ensures.ok
    (c.push_reserved.ensures.items ∙ ap (λ list. list ++ c.in-Ok.end ∷ []) c.in_ok-reserve.ensures.items)
    c.in-Ok.ensures.end

pub returns-in-Ok-clause-ok : goal.returns-in-Ok-clause-ok
returns-in-Ok-clause-ok c =
    numbers_pushed c.self.inside.numbers.items c.put.new.numbers.items c.args.clause.now c.self.inside.ends.items c.push_reserved.new.self.items
    c.in-Ok.end c.self.invariant c.in-Ok.ensures.ok
    (c.push_reserved.ensures.items ∙ ap (λ list. list ++ c.in-Ok.end ∷ []) c.in_ok-reserve.ensures.items)
    c.in-Ok.ensures.end
    ∙ ap (λ list. list ++ c.args.clause.now ∷ []) c.self.view_is
