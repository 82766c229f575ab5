use Rattle.std.proofs.Common.{◌≡◌, ◌∙◌, List, take_all, length, refl, sym, arith}
use Rattle.td_domain.specs.declared.cubes.Trit.{Trit}
use Rattle.td_domain.specs.declared.cubes.Trit.TheVariants.{Zero}
use Rattle.td_domain.proofs.Same.{same_trit, one_more_same}
use Rattle.td_domain.proofs.cubes.Cube.has_trits.Goals as goal

pub loop-position-preserved : goal.loop-position-preserved
loop-position-preserved c =
    let same = same_trit c.trit.result _ c.if-ne.ensures in
    one_more_same c.args.self.now c.args.trits.now c.loop-position.position c.trit.result Zero c.loop-position.invariant c.trit.ensures c.loop-position-test.true
    same

pub returns : goal.returns
returns c =
    let cube : List Trit = c.args.self.now in
    let trits : List Trit = c.args.trits.now in
    let same_size : length cube ≡ length trits = sym c.len.ensures ∙ c.if-len-trits.false in
    let over = c.loop-position-test.false in
    let same : cube ≡ trits = sym (take_all c.loop-position.position cube (omega arith)) ∙ (c.loop-position.invariant ∙ take_all c.loop-position.position trits over) in
    (λ h. same, λ h. refl)
