use Rattle.std.proofs.Common.{List, sym, subst, ◌∙◌}
use Rattle.td_domain.specs.declared.cubes.Trit.{Trit}
use Rattle.td_domain.specs.Admits.{HasAdmitted}
use Rattle.td_domain.proofs.PairCubes.{alone}
use Rattle.td_domain.proofs.admits.Admit.admits.Goals as goal

pub returns : goal.returns
returns c =
    let admit = c.args.self.now in
    let pair = c.args.pair.now in
    let one = alone admit pair (c.requires.first ∙ sym c.requires.second) in
    let any = c.any.ensures in
    let here = c.in_ok-cube.ensures in (
      λ is. one.0 (subst (λ (cube : List Trit). HasAdmitted admit cube) here (any.0 is)),
      λ admitted. any.1 (subst (λ (cube : List Trit). HasAdmitted admit cube) (sym here) (one.1 admitted)),
    )
