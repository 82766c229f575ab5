use Rattle.std.proofs.Common.{◌≡◌, ◌∙◌, ap, sym, Some}
use Rattle.std.specs.Prelude.{slice_get}
use Rattle.td_domain.proofs.Same.{trits_agree}
use Rattle.td_domain.proofs.Settling.{set-known}
use Rattle.td_domain.proofs.moving.narrow_at.Goals as goal

pub returns-then-eq-clause-cube : goal.returns-then-eq-clause-cube
returns-then-eq-clause-cube g c = λ reached.
    let there : slice_get c.args.sheet.now.cube c.args.position ≡ Some c.trit-now.result = rw c.cube.ensures at c.trit-now.ensures in
    sym (set-known c.args.sheet.now.cube c.args.position c.args.trit
    (there ∙ ap (λ t. Some t) (trits_agree c.trit-now.result c.args.trit c.if-eq.ensures)))
