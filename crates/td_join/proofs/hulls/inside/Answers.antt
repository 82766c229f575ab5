use Rattle.std.proofs.Common.{rules, ◌∙◌, List, refl, ap, subst}
use Rattle.td_domain.specs.declared.cubes.Trit.{Trit}
use Rattle.td_domain.specs.Admits.{Admitted}
use Rattle.td_join.specs.Faults.{IsOutside}
use Rattle.td_join.proofs.hulls.inside.Goals as goal

pub returns-then-is_outside-clause-fault : goal.returns-then-is_outside-clause-fault
returns-then-is_outside-clause-fault c = (
  refl,
  subst (λ (x : List Trit). IsOutside c.args.pins.now x) (c.pins.ensures.pins ∙ ap (λ (a : Admitted). a.pins) c.admit.ensures)
      (c.is_outside.ensures.outside (search rules)),
)
