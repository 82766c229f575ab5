use Rattle.std.proofs.Common.{◌≡◌, length, sym, ◌∙◌, arith}
use Rattle.std.proofs.lemmas.Bool.{eqb-true, eqb-false}
use Rattle.td_certificate.proofs.StepLoops.{IsTaken, step_taken, none_left}
use Rattle.td_certificate.proofs.refuting.Steps.next.Goals as goal

pub returns-then-is_empty : goal.returns-then-is_empty
returns-then-is_empty c =
    let none : length c.self.inside.rest.now ≡ 0 = eqb-true _ _ (sym c.if-is_empty.ensures) in
    sym c.self.view_is ∙ none_left c.self.inside.rest.now (omega (arith, none))

taken : (c : goal.After-rest-in-Ok-Step-default-1) → IsTaken c.self.inside.rest.now c.in-Ok-Step-default.rest.now c.in-Ok-Step-default.kind c.line_at.new.numbers.items
taken c =
    let some = eqb-false _ _ (sym c.if-is_empty.ensures) in
    step_taken c.self.inside.rest.now c.in-Ok-Step-default.rest.now c.in-Ok-Step-default.kind c.line_at.new.numbers.items c.self.invariant (omega (arith, some)) (rw c.in-Ok-Step-default.field-0-0-is at c.in-Ok-Step-default.ensures)

pub invariant_of-self : goal.invariant_of-self
invariant_of-self c = (taken c).lines

pub returns-in-Ok-Step-default : goal.returns-in-Ok-Step-default
returns-in-Ok-Step-default c = sym c.self.view_is ∙ (taken c).next
