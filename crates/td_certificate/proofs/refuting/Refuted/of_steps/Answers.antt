use Rattle.std.proofs.Common.{◌≡◌, ◌∙◌, ap, sym, subst}
use Rattle.std.specs.List.{AllByRecursion}
use Rattle.std.specs.Prelude.{map}
use Rattle.td_refutation.specs.Whole.{step_of}
use Rattle.td_certificate.specs.Steps.{IsStep, steps_text, IsBoundText}
use Rattle.td_certificate.specs.Lines.{steps_in}
use Rattle.td_certificate.specs.declared.refuting.Inside.{Inside}
use Rattle.td_certificate.proofs.StepLoops.{steps_back, lines_of_steps}
use Rattle.td_certificate.proofs.refuting.Refuted.of_steps.Goals as goal

pub invariant_of-result : goal.invariant_of-result
invariant_of-result c =
    let items : c.in_ok-inside.inside.value.lines.items ≡ steps_text (map step_of c.args.steps.now) =
    ap (λ (inside : Inside). inside.lines.items) c.in_ok-inside.ensures.ok ∙ (rw c.in-Some.is at c.in_ok-lines.ensures.lines) in
    lines_of_steps (map step_of c.args.steps.now) c.in_ok-inside.inside.value.lines.items (rw c.in-Some.is at c.in_ok-lines.ensures.spelled) items

pub returns-clause-is : goal.returns-clause-is
returns-clause-is c =
    let items : c.in_ok-inside.inside.value.lines.items ≡ steps_text (map step_of c.args.steps.now) =
    ap (λ (inside : Inside). inside.lines.items) c.in_ok-inside.ensures.ok ∙ (rw c.in-Some.is at c.in_ok-lines.ensures.lines) in
    let steps : steps_in c.in_ok-inside.inside.value.lines.items ≡ map step_of c.args.steps.now =
    ap steps_in items ∙ steps_back (map step_of c.args.steps.now) (rw c.in-Some.is at c.in_ok-lines.ensures.spelled) in
    let bound : c.in_ok-inside.inside.value.bound ≡ c.args.bound = ap (λ (inside : Inside). inside.bound) c.in_ok-inside.ensures.ok in
    λ i. record { steps = steps i; bound = bound i }

pub returns-clause-spelled : goal.returns-clause-spelled
returns-clause-spelled c =
    let items : c.in_ok-inside.inside.value.lines.items ≡ steps_text (map step_of c.args.steps.now) =
    ap (λ (inside : Inside). inside.lines.items) c.in_ok-inside.ensures.ok ∙ (rw c.in-Some.is at c.in_ok-lines.ensures.lines) in
    let all : AllByRecursion IsStep (map step_of c.args.steps.now) = (rw c.in-Some.is at c.in_ok-lines.ensures.spelled) in
    let steps : steps_in c.in_ok-inside.inside.value.lines.items ≡ map step_of c.args.steps.now =
    ap steps_in items ∙ steps_back (map step_of c.args.steps.now) all in
    let bound : c.in_ok-inside.inside.value.bound ≡ c.args.bound = ap (λ (inside : Inside). inside.bound) c.in_ok-inside.ensures.ok in
    record { steps = subst (AllByRecursion IsStep) (sym steps) all; bound = subst IsBoundText (sym bound) c.requires }
